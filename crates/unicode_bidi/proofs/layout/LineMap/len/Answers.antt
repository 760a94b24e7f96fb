use Rattle.bidi_base.proofs.Common.{sym, arith}
use Rattle.unicode_bidi.proofs.StoredOrder.{length-entries}
use Rattle.unicode_bidi.proofs.layout.LineMap.len.Goals as goal

pub returns-clause-order : goal.returns-clause-order
returns-clause-order c = let m = c.args.self.now in sym (length-entries m.order.items m.len m.whole)

pub returns-clause-places : goal.returns-clause-places
returns-clause-places c = let m = c.args.self.now in sym (length-entries m.places.items m.len (λ some. omega (arith, m.inverse.same_len, m.whole (omega (arith, m.inverse.same_len)))))
