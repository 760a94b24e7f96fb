-- Units that get one value, as the walk over a text writes them.
use Rattle.bidi_base.proofs.Common.{◌≡◌, ℕ, ◌+◌, ◌-◌, ◌≤◌, List, ◌++◌, length, take, drop, arith, append_assoc, common_steps, Range, take-append-add, take-append-le, drop-append-le, take-take}
use Rattle.bidi_base.proofs.Common.{drop-take, filled, replicate}

-- ---- the units before some place

module _ {X : Type 0} (range : Range ℕ) (x : X) (xs : List X) (order : range.start ≤ range.end) where
  abbrev written : ℕ → List X → List X
  written size rest = take range.start xs ++ (replicate size x ++ rest)

  -- the first `more` units after the range stay with it
  take-written : (size more : ℕ) (rest : List X) → range.start ≤ length xs → take (range.start + (size + more)) (written size rest) ≡ written size (take more rest)
  take-written size more rest fits = grind (arith, common_steps, take-append-add)

  -- those before a place after the range
  pub take-filled : (place : ℕ) → range.end ≤ place → place ≤ length xs → take place (filled range x xs) ≡ filled range x (take place xs)
  take-filled place after fits =
      let whole : range.start + (range.end - range.start + (place - range.end)) ≡ place = omega arith in
      let cut : range.end + (place - range.end) ≡ place = omega arith in
      simp (take-take range.start place xs (omega arith), simp cut at (drop-take range.end (place - range.end) xs))
      (simp whole at (take-written (range.end - range.start) (place - range.end) (drop range.end xs) (omega arith)))

-- units after stay
pub filled-append : {X : Type 0} (range : Range ℕ) (x : X) (xs ys : List X) → range.start ≤ range.end → range.end ≤ length xs → filled range x (xs ++ ys) ≡ filled range x xs ++ ys
filled-append {X} range x xs ys order fits =
    simp (take-append-le range.start xs ys (omega arith), drop-append-le range.end xs ys fits, append_assoc)
