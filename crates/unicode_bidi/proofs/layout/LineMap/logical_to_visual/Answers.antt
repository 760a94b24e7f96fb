use Rattle.unicode_bidi.proofs.StoredOrder.{entries-inverse, found-back}
use Rattle.bidi_base.proofs.Common.{List, ℕ, AreInverse, sym}
use Rattle.unicode_bidi.proofs.layout.LineMap.logical_to_visual.Goals as goal

AreInverse-sym : (xs ys : List ℕ) → AreInverse xs ys → AreInverse ys xs
AreInverse-sym xs ys h = record { same_len = sym h.same_len; back = h.forth; forth = h.back }

pub returns-clause-back : goal.returns-clause-back
returns-clause-back c =
    let m = c.args.self.now in
    found-back _ _ c.entry_at.result c.args.logical (AreInverse-sym _ _ (entries-inverse m.order.items m.places.items m.len m.inverse)) (rw c.as_slice.ensures.value at c.entry_at.ensures)
