use Rattle.bidi_base.proofs.Common.{◌≡◌, ◌∙◌, ℕ, ◌+◌, ◌-◌, ◌<◌, ◌≤◌, List, length, get_or, get_or-replicate, replicate, subst, sym, ap, arith}
use Rattle.bidi_calls.proofs.PlacesLemmas.{nowhere-first, places-all, places-more, places-same, HasPlaces}
use Rattle.bidi_calls.specs.ShownOrder.{nowhere}
use Rattle.bidi_calls.proofs.shown.write_places.Goals.{then-index-out, else-index-out}
use Rattle.bidi_calls.proofs.shown.write_places.Goals as goal

last_index : (n k : ℕ) → k < n → n - 1 - k < n
last_index n k below = omega (arith, below)

one_before : (n k : ℕ) → k < n → n - k ≡ n - 1 - k + 1
one_before n k below = omega (arith, below)

same_index : (n k : ℕ) → k < n → n - 1 - k ≡ n - (k + 1)
same_index n k below = omega (arith, below)

pub loop-k-init : goal.loop-k-init
loop-k-init c =
    let filled : c.fill.new.self ≡ replicate (length c.args.out.now) nowhere = c.fill.ensures.after (λ y e. e) in (
      c.fill.ensures.len,
      λ j below.
          ap (λ (xs : List ℕ). get_or xs j 0) filled ∙ get_or-replicate (length c.args.out.now) j nowhere 0 below ∙ nowhere-first c.args.order.now j (length c.args.order.now - 0) (omega arith),
    )

pub loop-k-preserved : goal.loop-k-preserved
loop-k-preserved c =
    let n : ℕ = length c.args.order.now in
    let k : ℕ = c.loop-k.k in
    let count : ℕ = length c.args.out.now in
    let fits = last_index n k c.loop-k-test.true in
    let next = one_before n k c.loop-k-test.true in
    elim c.if-index-out.branch [
      | then-index-out w ↦
          let inside : get_or c.args.order.now (n - 1 - k) 0 < count = omega (arith, w.if-index-out.true, c.loop-k.invariant.0) in
          subst (λ (m : ℕ). HasPlaces c.args.order.now m c.if-index-out.out count) (same_index n k c.loop-k-test.true)
          (subst (λ (xs : List ℕ). HasPlaces c.args.order.now (n - 1 - k) xs count) (sym w.out-is)
          (places-more c.args.order.now c.loop-k.out count (n - k) (n - 1 - k) fits next c.loop-k.invariant inside))
      | else-index-out w ↦
          let outside : count ≤ get_or c.args.order.now (n - 1 - k) 0 = omega (arith, w.if-index-out.false, c.loop-k.invariant.0) in
          subst (λ (m : ℕ). HasPlaces c.args.order.now m c.if-index-out.out count) (same_index n k c.loop-k-test.true)
          (subst (λ (xs : List ℕ). HasPlaces c.args.order.now (n - 1 - k) xs count) (sym w.out-is)
          (places-same c.args.order.now c.loop-k.out count (n - k) (n - 1 - k) fits next c.loop-k.invariant outside))
    ]

pub returns : goal.returns
returns c =
    let none : length c.args.order.now - c.loop-k.k ≡ 0 = omega (arith, c.loop-k-test.false) in
    places-all c.args.order.now c.loop-k.out (length c.args.out.now)
    (subst (λ (m : ℕ). HasPlaces c.args.order.now m c.loop-k.out (length c.args.out.now)) none c.loop-k.invariant)
