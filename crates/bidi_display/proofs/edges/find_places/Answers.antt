use Rattle.bidi_base.proofs.Common.{◌<◌, ℕ, length, get_or, arith, get_or-set_other, get_or-set_same, length-set, All-permutation, indexes}
use Rattle.std.proofs.Common.{below_more}
use Rattle.bidi_laws.proofs.LayoutLemmas.{AreInverse-from_back}
use Rattle.bidi_laws.proofs.VisualOrderLemmas.{all_below}
use Rattle.bidi_display.proofs.EdgesLemmas.{distinct}
use Rattle.bidi_display.proofs.edges.find_places.Goals as goal

pub index_mut-requires : goal.index_mut-requires
index_mut-requires c =
    omega (arith, c.loop-place.invariant.0, All-permutation (λ (i : ℕ). i < length c.args.order.now) (indexes c.args.order.now) c.args.order.now c.requires (all_below c.args.order.now) c.loop-place.place 0 c.loop-place-test.true)

pub loop-place-preserved : goal.loop-place-preserved
loop-place-preserved c =
    let below = All-permutation (λ (i : ℕ). i < length c.args.order.now) (indexes c.args.order.now) c.args.order.now c.requires (all_below c.args.order.now) c.loop-place.place 0 c.loop-place-test.true in
    let inside : get_or c.args.order.now c.loop-place.place 0 < length c.loop-place.places.items = omega (arith, below, c.loop-place.invariant.0) in (
      omega (arith, length-set c.loop-place.places.items (get_or c.args.order.now c.loop-place.place 0) c.loop-place.place, c.loop-place.invariant.0),
      below_more _ _
          (λ k earlier. simp (get_or-set_other, distinct (length c.args.order.now) c.args.order.now c.requires k c.loop-place.place 0 earlier c.loop-place-test.true) (c.loop-place.invariant.1 k earlier))
          (rw get_or-set_same),
    )

pub returns : goal.returns
returns c = grind (arith, AreInverse-from_back c.args.order.now c.loop-place.places.items)
