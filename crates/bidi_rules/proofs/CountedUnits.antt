-- The units of some ranges below a unit, as they are counted and paid for by a walk, and the characters that begin in
-- them.
use Rattle.bidi_base.proofs.Common.{◌≡◌, ℕ, zero, suc, ◌+◌, ◌-◌, ◌*◌, ◌<◌, ◌≤◌, List, [], ◌∷◌, length, true, false, get_or, take}
use Rattle.bidi_base.proofs.Common.{drop, arith, length-append, length-take, length-drop, flat_map-append, All}
use Rattle.bidi_base.proofs.Common.{slice_range, cond-true, cond-false, All-head, All-tail, char_index, IsLine, are_ordered, are_ordered_from, chars_in_runs, units_in_runs, AreLines, take_more}
use Rattle.bidi_base.proofs.UnitIndexLemmas.{line_unit_indexes, unit_index-sum}
use Rattle.bidi_base.proofs.TextLemmas.{HasUnits, length-le-text_len}
use Rattle.bidi_rules.specs.declared.weak.w2_w4_w5_w7.Walk.{Walk}
use Rattle.bidi_rules.specs.WeakPass.{waits}
use Rattle.bidi_explicit.specs.SequenceUnits.{count_below}
use Rattle.bidi_rules.specs.WeakWalk.{resolved_to, WaitsBelow}
use Rattle.bidi_explicit.proofs.WalkLemmas.{are_ordered-front, are_ordered-take}
use Rattle.bidi_explicit.proofs.CountBelow.{length-between, count_below-cons, count_below-none, count_below-monotone, count_below-parts}

pub units-cons : (r : ℕ × ℕ) (runs : List (ℕ × ℕ)) → length (units_in_runs (r ∷ runs)) ≡ (r.1 - r.0) + length (units_in_runs runs)
units-cons r runs = grind (arith, length-append, length-between) steps 400000

-- of the units of one range each counts
pub count_below-within : (low index : ℕ) (runs : List (ℕ × ℕ)) (u v : ℕ) → are_ordered_from low runs ≡ true → index < length runs
    → (get_or runs index (0, 0)).0 ≤ u → u ≤ v → v ≤ (get_or runs index (0, 0)).1
    → count_below runs u + (v - u) ≤ count_below runs v
unfolding count_below
count_below-within low index [] u v h fits from order to = absurd (omega arith)
count_below-within low zero (r ∷ runs) u v h fits from order to =
    grind (arith, are_ordered-front low r runs h, count_below-monotone r.1 runs u v, count_below-cons r runs u, count_below-cons r runs v)
count_below-within low (suc index) (r ∷ runs) u v h fits from order to =
    grind (arith, are_ordered-front low r runs h, count_below-within r.1 index runs u v, count_below-cons r runs u, count_below-cons r runs v)

-- all of them
pub count_below-all : (low : ℕ) (runs : List (ℕ × ℕ)) (n : ℕ) → are_ordered_from low runs ≡ true → All (λ (r : ℕ × ℕ). r.1 ≤ n) runs → count_below runs n ≡ length (units_in_runs runs)
count_below-all low [] n h within = count_below-none n
count_below-all low (r ∷ runs) n h within =
    grind (arith, All-head (λ (q : ℕ × ℕ). q.1 ≤ n) r runs within, are_ordered-front low r runs h, count_below-all r.1 runs n, All-tail (λ (q : ℕ × ℕ). q.1 ≤ n) r runs within, count_below-cons r runs n, units-cons r runs)

pub length-units_in_runs-more : (index : ℕ) (runs : List (ℕ × ℕ)) → index < length runs
    → length (units_in_runs (take (index + 1) runs)) ≡ length (units_in_runs (take index runs)) + ((get_or runs index (0, 0)).1 - (get_or runs index (0, 0)).0)
length-units_in_runs-more index runs fits = grind (arith, take_more runs index (0, 0) fits, flat_map-append, length-append, length-between)

-- what is resolved where something waits, and where nothing does
pub resolved_to-waits : (w : Walk) (u : ℕ) → waits w.before ≡ true → resolved_to w u ≡ w.first
resolved_to-waits w u h = cond-true (waits w.before) w.first u h

pub resolved_to-idle : (w : Walk) (u : ℕ) → waits w.before ≡ false → resolved_to w u ≡ u
resolved_to-idle w u h = cond-false (waits w.before) w.first u h

-- some of the ranges and the units that they have between two units, where these pay for the iterations over those
-- ranges
pub paid-by-part : (index : ℕ) (runs : List (ℕ × ℕ)) (u v a b : ℕ) → are_ordered runs ≡ true → u ≤ v
    → a + 2 * count_below (drop index runs) u ≤ b + 2 * count_below (drop index runs) v
    → a + 2 * count_below runs u ≤ b + 2 * count_below runs v
paid-by-part index runs u v a b ordered order paid =
    omega (
      arith,
      count_below-parts index runs u,
      count_below-parts index runs v,
      count_below-monotone 0 (take index runs) u v (are_ordered-take 0 index runs ordered) order,
    )

-- further on
pub count_resolved-monotone : (runs : List (ℕ × ℕ)) (w : Walk) (u v : ℕ) → are_ordered runs ≡ true → u ≤ v → count_below runs (resolved_to w u) ≤ count_below runs (resolved_to w v)
count_resolved-monotone runs w u v ordered order = grind (arith, count_below-monotone 0 runs (resolved_to w u) (resolved_to w v))

pub WaitsBelow-idle : (runs : List (ℕ × ℕ)) (w : Walk) (u : ℕ) → w.first_run ≤ length runs → waits w.before ≡ false → WaitsBelow runs w u
WaitsBelow-idle runs w u fits idle = grind arith steps 400000

-- the characters of a range are no more than its units
characters_within : (len_of : ℕ → ℕ) → HasUnits len_of → (chars : List ℕ) (start end : ℕ) → IsLine len_of chars start end → char_index len_of chars end - char_index len_of chars start ≤ end - start
characters_within len_of h chars start end line =
    let i = char_index len_of chars start in
    let j = char_index len_of chars end in
    grind (arith, line_unit_indexes len_of h chars start end line, unit_index-sum len_of chars i j, length-le-text_len len_of h (slice_range chars i j), length-take (j - i) (drop i chars), length-drop i chars)

pub characters-at_most : (len_of : ℕ → ℕ) → HasUnits len_of → (chars : List ℕ) (runs : List (ℕ × ℕ)) → AreLines len_of chars runs
    → length (chars_in_runs len_of chars runs) ≤ length (units_in_runs runs)
unfolding chars_in_runs
characters-at_most len_of h chars [] lines = omega arith
characters-at_most len_of h chars (r ∷ runs) lines =
    let here = characters_within len_of h chars r.0 r.1 (All-head (λ (r : ℕ × ℕ). IsLine len_of chars r.0 r.1) r runs lines) in
    let later = characters-at_most len_of h chars runs (All-tail (λ (r : ℕ × ℕ). IsLine len_of chars r.0 r.1) r runs lines) in
    grind (arith, here, later, units-cons r runs, length-append, length-between)
