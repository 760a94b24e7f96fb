use Rattle.unicode_bidi.proofs.StoredOrder.{entries-inverse, found-back}
use Rattle.unicode_bidi.proofs.layout.LineMap.visual_to_logical.Goals as goal

pub returns-clause-back : goal.returns-clause-back
returns-clause-back c =
    let m = c.args.self.now in
    found-back _ _ c.entry_at.result c.args.visual (entries-inverse m.order.items m.places.items m.len m.inverse) (rw c.as_slice.ensures.value at c.entry_at.ensures)
