-- How many units of some ranges lie below a unit.
use Rattle.bidi_base.proofs.Common.{◌≡◌, ℕ, ◌+◌, ◌-◌, ◌<◌, ◌≤◌, min, List, [], ◌∷◌, length, true, get_or, take, drop, refl, sym, arith}
use Rattle.bidi_base.proofs.Common.{length-range_with_len, sum_by-cons, sum_by-append, between, are_ordered_from, take_more}
use Rattle.std.proofs.lemmas.List.Sums.{sum_by-take-drop}
use Rattle.bidi_explicit.specs.SequenceUnits.{count_below}
use Rattle.bidi_explicit.proofs.WalkLemmas.{are_ordered-front}

pub length-between : (low high : ℕ) → length (between low high) ≡ high - low
length-between low high = length-range_with_len low (high - low)

pub count_below-cons : (r : ℕ × ℕ) (runs : List (ℕ × ℕ)) (u : ℕ) → count_below (r ∷ runs) u ≡ (min r.1 u - min r.0 u) + count_below runs u
unfolding count_below
count_below-cons r runs u = sum_by-cons (λ (r : ℕ × ℕ). min r.1 u - min r.0 u) r runs

pub count_below-none : (u : ℕ) → count_below [] u ≡ 0
unfolding count_below
count_below-none u = refl

pub count_below-monotone : (low : ℕ) (runs : List (ℕ × ℕ)) (u v : ℕ) → are_ordered_from low runs ≡ true → u ≤ v → count_below runs u ≤ count_below runs v
count_below-monotone low [] u v h order = omega (arith, count_below-none u, count_below-none v)
count_below-monotone low (r ∷ runs) u v h order =
    grind (arith, are_ordered-front low r runs h, count_below-monotone r.1 runs u v, count_below-cons r runs u, count_below-cons r runs v)

-- of ranges in two parts
pub count_below-parts : (index : ℕ) (runs : List (ℕ × ℕ)) (u : ℕ) → count_below runs u ≡ count_below (take index runs) u + count_below (drop index runs) u
unfolding count_below
count_below-parts index runs u = sym (sum_by-take-drop (λ (r : ℕ × ℕ). min r.1 u - min r.0 u) runs index)

-- one range more
pub count_below-more : (index : ℕ) (runs : List (ℕ × ℕ)) (u : ℕ) → index < length runs
    → count_below (take (index + 1) runs) u ≡ count_below (take index runs) u + (min (get_or runs index (0, 0)).1 u - min (get_or runs index (0, 0)).0 u)
unfolding count_below
count_below-more index runs u fits =
    grind (arith, take_more runs index (0, 0) fits, sum_by-append (λ (r : ℕ × ℕ). min r.1 u - min r.0 u), sum_by-cons (λ (r : ℕ × ℕ). min r.1 u - min r.0 u))
