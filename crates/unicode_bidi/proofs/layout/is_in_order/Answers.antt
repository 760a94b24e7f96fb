use Rattle.bidi_base.proofs.Common.{◌≢◌, get_or, arith, get_or_default}
use Rattle.unicode_bidi.proofs.StoredOrder.{in_order, out_of_order}
use Rattle.unicode_bidi.proofs.layout.is_in_order.Goals as goal

pub returns-then-order-place-clause-other : goal.returns-then-order-place-clause-other
returns-then-order-place-clause-other c _ =
    let other : get_or c.args.order.now c.loop-place.place 0 ≢ c.loop-place.place = grind (arith, get_or_default) in
    out_of_order c.args.order.now c.loop-place.place c.loop-place-test.true other

pub returns-clause-ordered : goal.returns-clause-ordered
returns-clause-ordered c _ = in_order c.args.order.now (λ k fits. c.loop-place.invariant k (omega (arith, c.loop-place-test.false)))
