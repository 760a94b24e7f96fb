-- The level runs in the visual order of their levels, written out, are the visual order of the units.
use Rattle.bidi_base.proofs.Common.{◌≡◌, ℕ, zero, suc, ◌+◌, ◌-◌, ◌<◌, ◌≤◌, max, true, List, [], ◌∷◌, map, flat_map, length, get_or, AllPairs, refl, ap, subst, arith, inl, inr, range_with_len}
use Rattle.bidi_base.proofs.Common.{IsPermutation, cases_lt, cases_order, both_ways, cases_Bool, get_or-map, length-map, same_lists, get_or_default, flat_map-map, length-range_with_len}
use Rattle.bidi_base.proofs.Common.{get_or-range_with_len, length-map-range_with_len, get_or-map-range_with_len, All-tail, All-map, All-permutation, IsPermutation-refl, IsPermutation-sym}
use Rattle.bidi_base.proofs.Common.{IsPermutation-trans, IsPermutation-reverse, is_odd, between, indexes, at_indexes, least_between, stands_left, visual_order, IsVisualOrder, Run, level_runs}
use Rattle.bidi_base.proofs.Common.{run_level, visual_runs, written_run, written_runs, IsLevelRun, AreVisualRuns, All, IsPermutation-map}
use Rattle.bidi_laws.proofs.OrderLemmas.{least_between-le, stands_left-before, stands_left-after}
use Rattle.bidi_laws.proofs.VisualOrderLemmas.{stands_left-same, visual_order-unique, all_below}
use Rattle.bidi_lines.proofs.Least.{least_between-is, least_between-at}
use Rattle.bidi_lines.proofs.Ordered.{visual_order-is}
use Rattle.bidi_lines.proofs.Pieces.{AllPairs-map, AllPairs-reverse, AllPairs-between, All-between, AllPairs-flat_map}
use Rattle.bidi_lines.proofs.Pieces.{between-append, at_indexes-map, IsPermutation-flat_map, IsPermutation-flat_map_each}
use Rattle.bidi_lines.proofs.RunsLemmas.{Follow, level_runs-follow, level_runs-each}

abbrev pub run_at : List Run → ℕ → Run
run_at runs k = get_or runs k (0, 0)

-- u is a unit of the run
abbrev pub IsUnitOf : Run → ℕ → Type 0
IsUnitOf run u = (run.0 ≤ u) × (u < run.1)

-- each unit is in some run
follow-reach : (a b : ℕ) (runs : List Run) → Follow a b runs → (u : ℕ) → a ≤ u → u < b → (k : ℕ) × (k < length runs) × IsUnitOf (run_at runs k) u
follow-reach a b [] h u low high = absurd (omega arith)
follow-reach a b (run ∷ runs) h u low high = elim (cases_lt u run.1) [
  | inl here ↦ (0, omega arith, (omega (arith, h.0), here))
  | inr later ↦ let r = follow-reach run.1 b runs h.2 u later high in (suc r.0, omega (arith, r.1), r.2)
]

follow-low : (a b : ℕ) (runs : List Run) → Follow a b runs → (k : ℕ) → k < length runs → a ≤ (run_at runs k).0
follow-low a b [] h k fits = absurd (omega arith)
follow-low a b (run ∷ runs) h k fits = grind (arith, follow-low run.1 b runs h.2 (k - 1))

-- an earlier run ends before a later one begins
follow-apart : (a b : ℕ) (runs : List Run) → Follow a b runs → (j k : ℕ) → j < k → k < length runs → (run_at runs j).1 ≤ (run_at runs k).0
follow-apart a b [] h j k before fits = absurd (omega arith)
follow-apart a b (run ∷ runs) h j k before fits = grind (arith, follow-low run.1 b runs h.2 (k - 1), follow-apart run.1 b runs h.2 (j - 1) (k - 1))

-- and so neither its begin nor its end is after the other's
follow-ordered : (a b : ℕ) (runs : List Run) → Follow a b runs → (j k : ℕ) → j ≤ k → k < length runs → (run_at runs k).0 < (run_at runs k).1 → (run_at runs j).0 < (run_at runs j).1
    → ((run_at runs j).0 ≤ (run_at runs k).0) × ((run_at runs j).1 ≤ (run_at runs k).1)
follow-ordered a b runs h j k order fits some some' = grind (arith, follow-apart a b runs h j k)

-- runs stand as their units
follow-as_units : (a b : ℕ) (runs : List Run) → Follow a b runs → (k l u w : ℕ) → k < length runs → IsUnitOf (run_at runs k) u → IsUnitOf (run_at runs l) w → u ≤ w → k ≤ l
follow-as_units a b runs h k l u w fits unit unit' up = elim (cases_lt l k) [ inl after ↦ absurd (omega (arith, follow-apart a b runs h l k after fits)) | inr before ↦ before ]

-- a line cut into its level runs
record Cut (from : ℕ) (levels : List ℕ) (runs : List Run) : Type 0 where
  follow : Follow from (from + length levels) runs
  each : All (IsLevelRun from levels) runs

level_runs-cut : (from : ℕ) (levels : List ℕ) → Cut from levels (level_runs from levels)
level_runs-cut from levels = grind (arith, level_runs-follow, level_runs-each)

run_levels : ℕ → List ℕ → List Run → List ℕ
run_levels from levels runs = map (run_level from levels) runs

length-run_levels : (from : ℕ) (levels : List ℕ) (runs : List Run) → length (run_levels from levels runs) ≡ length runs
unfolding run_levels
length-run_levels from levels runs = length-map runs (run_level from levels)

-- the level of a unit is that of its run
unit_level : (from : ℕ) (levels : List ℕ) (runs : List Run) → Cut from levels runs → (k u : ℕ) → k < length runs
    → IsUnitOf (run_at runs k) u → get_or levels (u - from) 0 ≡ get_or (run_levels from levels runs) k 0
unfolding run_levels
unit_level from levels runs cut k u fits unit = grind (arith, get_or-map)

-- the least level from unit to unit is that from run to run
least-runs : (from : ℕ) (levels : List ℕ) (runs : List Run) → Cut from levels runs → (k l u w : ℕ) → k ≤ l → l < length runs → IsUnitOf (run_at runs k) u → IsUnitOf (run_at runs l) w → u ≤ w
    → least_between levels (u - from) (w - from) ≡ least_between (run_levels from levels runs) k l
least-runs from levels runs cut k l u w order fits unit unit' up =
    let low = least_between-le levels (u - from) (w - from) _ (omega arith) (omega (arith, unit'.1, unit.0, first.starts_within, last.ends_within)) at_unit in
    omega (arith, low, least_between-le (run_levels from levels runs) k l _ order (omega (arith, long)) at_run)
  where
    long : length (run_levels from levels runs) ≡ length runs
    long = length-run_levels from levels runs

    first : IsLevelRun from levels (run_at runs k)
    first = cut.each k (0, 0) (omega arith)

    last : IsLevelRun from levels (run_at runs l)
    last = cut.each l (0, 0) fits

    -- a unit between them is in a run between theirs
    at_unit : (x : ℕ) → u - from ≤ x → x ≤ w - from → least_between (run_levels from levels runs) k l ≤ get_or levels x 0
    at_unit x a b =
        let r = follow-reach from (from + length levels) runs cut.follow (from + x) (omega arith) (omega (arith, unit.0, unit'.1, first.starts_within, last.ends_within)) in
        let left = follow-as_units from (from + length levels) runs cut.follow k r.0 u (from + x) in
        let right = follow-as_units from (from + length levels) runs cut.follow r.0 l (from + x) w in
        let least = least_between-at (run_levels from levels runs) k l r.0 in
        grind (arith, long, first, left, right, unit_level from levels runs cut r.0 (from + x), least)

    -- each run between theirs has a unit between them
    at_run : (j : ℕ) → k ≤ j → j ≤ l → least_between levels (u - from) (w - from) ≤ get_or (run_levels from levels runs) j 0
    at_run j a b =
        let y : ℕ = max u (run_at runs j).0 in
        let left = follow-ordered from (from + length levels) runs cut.follow k j in
        let right = follow-ordered from (from + length levels) runs cut.follow j l in
        let least = least_between-at levels (u - from) (w - from) (y - from) in
        grind (arith, first, last, cut.each j (0, 0), left, right, unit_level from levels runs cut j y, least)

-- units of two runs stand as their runs do
units-apart : (from : ℕ) (levels : List ℕ) (runs : List Run) → Cut from levels runs → (k l u w : ℕ) → k < length runs → l < length runs → IsUnitOf (run_at runs k) u → IsUnitOf (run_at runs l) w
    → stands_left (run_levels from levels runs) k l ≡ true → stands_left levels (u - from) (w - from) ≡ true
units-apart from levels runs cut k l u w fits fits' unit unit' left = elim (cases_order k l) [
  | inl same ↦ absurd (both_ways (stands_left (run_levels from levels runs) k k) (stands_left-same (run_levels from levels runs) k) (rw (← same) at left))
  | inr apart ↦ elim apart [
    | inl before ↦
        let g = follow-apart from (from + length levels) runs cut.follow k l before fits' in
        grind (arith, stands_left-before, least-runs from levels runs cut k l u w, cut.each k (0, 0))
    | inr after ↦
        let g = follow-apart from (from + length levels) runs cut.follow l k after fits in
        grind (arith, stands_left-after, least-runs from levels runs cut l k w u, cut.each l (0, 0))
  ]
]

-- units of one run stand upwards where its level is even, and downwards where it is odd
least-inside : (from : ℕ) (levels : List ℕ) (runs : List Run) → Cut from levels runs → (k u w : ℕ) → k < length runs → IsUnitOf (run_at runs k) u → IsUnitOf (run_at runs k) w → u ≤ w
    → least_between levels (u - from) (w - from) ≡ run_level from levels (run_at runs k)
least-inside from levels runs cut k u w fits unit unit' up = grind (arith, least-runs from levels runs cut k k u w, least_between-is (run_levels from levels runs) k k (get_or (run_levels from levels runs) k 0) k, unit_level from levels runs cut k u, cut.each k (0, 0), length-run_levels from levels runs)

-- a run written is its units, or the same the other way round
IsPermutation-written_run : (from : ℕ) (levels : List ℕ) (run : Run) → IsPermutation (written_run from levels run) (between run.0 run.1)
IsPermutation-written_run from levels run = grind (arith, IsPermutation-sym, IsPermutation-reverse (between run.0 run.1), IsPermutation-refl (between run.0 run.1))

-- what holds of each unit of a run holds of each one written
All-written_run : (P : ℕ → Type 0) (from : ℕ) (levels : List ℕ) (run : Run) → ((u : ℕ) → run.0 ≤ u → u < run.1 → P u) → All P (written_run from levels run)
All-written_run P from levels run h =
    All-permutation P (between run.0 run.1) (written_run from levels run) (IsPermutation-sym _ _ (IsPermutation-written_run from levels run)) (All-between P run.0 run.1 h)

-- u stands left of w
abbrev Left : ℕ → List ℕ → ℕ → ℕ → Type 0
Left from levels u w = stands_left levels (u - from) (w - from) ≡ true

pairs-written_run : (from : ℕ) (levels : List ℕ) (runs : List Run) → Cut from levels runs → (k : ℕ) → k < length runs → AllPairs (Left from levels) (written_run from levels (run_at runs k))
pairs-written_run from levels runs cut k fits = elim (cases_Bool (is_odd (run_level from levels (run_at runs k)))) [
  | inl odd ↦ simp odd (AllPairs-reverse (Left from levels) _ (AllPairs-between (λ a b. Left from levels b a) (run_at runs k).0 (run_at runs k).1
      (λ u w a b c. grind (arith, stands_left-after, least-inside from levels runs cut k u w, cut.each k (0, 0)))))
  | inr even ↦ simp even (AllPairs-between (Left from levels) (run_at runs k).0 (run_at runs k).1
      (λ u w a b c. grind (arith, stands_left-before, least-inside from levels runs cut k u w, cut.each k (0, 0))))
]

-- a visual order has the indexes alone
pub order_below : (of_runs order : List ℕ) (n : ℕ) → length of_runs ≡ n → IsVisualOrder of_runs order → All (λ k. k < n) order
order_below of_runs order n e h k d fits = omega (arith, All-permutation (λ i. i < length of_runs) (indexes of_runs) order h.all_indexes (all_below of_runs) k d fits)

-- the units in the order of their runs
pairs-written_runs : (from : ℕ) (levels : List ℕ) (runs : List Run) (order : List ℕ) → Cut from levels runs → IsVisualOrder (run_levels from levels runs) order
    → AllPairs (Left from levels) (flat_map (λ k. written_run from levels (run_at runs k)) order)
pairs-written_runs from levels runs order cut h =
    let within = order_below (run_levels from levels runs) order (length runs) (length-run_levels from levels runs) h in
    AllPairs-flat_map (Left from levels) (λ k. written_run from levels (run_at runs k)) order (λ i d fits. pairs-written_run from levels runs cut (get_or order i d) (within i d fits))
    (λ i j d before fits. All-written_run _ from levels (run_at runs (get_or order i d)) (λ u a b. All-written_run _ from levels (run_at runs (get_or order j d)) (λ w a' b'.
    units-apart from levels runs cut (get_or order i d) (get_or order j d) u w (within i d (omega arith)) (within j d fits) (a, b) (a', b') (h.in_order i j d before fits))))

follow-le : (a b : ℕ) (runs : List Run) → Follow a b runs → a ≤ b
follow-le a b [] h = omega arith
follow-le a b (run ∷ runs) h = omega (arith, h.0, h.1, follow-le run.1 b runs h.2)

-- written upwards, the runs are the units
flat_map-follow : (a b : ℕ) (runs : List Run) → Follow a b runs → flat_map (λ (run : Run). between run.0 run.1) runs ≡ between a b
flat_map-follow a b [] h = let none : 0 ≡ b - a = omega arith in ap (range_with_len a) none
flat_map-follow a b (run ∷ runs) h = grind (arith, flat_map-follow run.1 b runs h.2, between-append run.0 run.1 b, follow-le run.1 b runs h.2)

pub all-runs : (runs : List Run) → map (run_at runs) (range_with_len 0 (length runs)) ≡ runs
all-runs runs = grind (arith, same_lists, length-map-range_with_len, get_or-map-range_with_len, get_or_default)

-- as numbers from 0 on
shifted : (from n : ℕ) → map (λ u. u - from) (between from (from + n)) ≡ range_with_len 0 n
shifted from n = grind (arith, same_lists, length-map-range_with_len, length-range_with_len, get_or-map-range_with_len, get_or-range_with_len)

and_back : (from : ℕ) (us : List ℕ) → All (λ u. from ≤ u) us → map (λ u. from + u) (map (λ u. u - from) us) ≡ us
and_back from [] h = refl
and_back from (u ∷ us) h = grind (arith, h zero 0, and_back from us (All-tail (λ u. from ≤ u) u us h))

-- the units in the order of their runs, and the order of the runs
abbrev written_in : ℕ → List ℕ → List ℕ → List ℕ
written_in from levels order = flat_map (λ k. written_run from levels (run_at (level_runs from levels) k)) order

abbrev runs_order : ℕ → List ℕ → List ℕ
runs_order from levels = visual_order (map (run_level from levels) (level_runs from levels))

-- The runs lemma: the runs in a visual order of their levels, written out, are the visual order of the units.
pub written-visual : (from : ℕ) (levels : List ℕ) (order : List ℕ) → IsVisualOrder (map (run_level from levels) (level_runs from levels)) order
    → written_runs from levels (at_indexes (0, 0) (level_runs from levels) order) ≡ map (λ u. from + u) (visual_order levels)
unfolding run_levels written_runs
written-visual from levels order h =
    let back = and_back from (written_in from levels order) (λ k d fits. (inside k d fits).0) in
    simp (at_indexes-map (0, 0) (level_runs from levels), flat_map-map (written_run from levels) (run_at (level_runs from levels)), ← visual_order-unique levels _ visual, back)
  where
    cut : Cut from levels (level_runs from levels)
    cut = level_runs-cut from levels

    permuted : IsPermutation (between from (from + length levels)) (written_in from levels order)
    permuted = IsPermutation-trans _ _ _
        (IsPermutation-sym _ _ (rw (← flat_map-follow from (from + length levels) (level_runs from levels) cut.follow)
        (IsPermutation-flat_map_each (written_run from levels) (λ (run : Run). between run.0 run.1) (IsPermutation-written_run from levels) (level_runs from levels))))
        (rw (length-run_levels from levels (level_runs from levels), ← flat_map-map (written_run from levels) (run_at (level_runs from levels)) (range_with_len 0 (length (level_runs from levels))), all-runs (level_runs from levels)) at
        (IsPermutation-flat_map (λ k. written_run from levels (run_at (level_runs from levels) k)) (indexes (run_levels from levels (level_runs from levels))) order h.all_indexes))

    inside : All (λ u. (from ≤ u) × (u < from + length levels)) (written_in from levels order)
    inside = All-permutation (λ u. (from ≤ u) × (u < from + length levels)) (between from (from + length levels)) (written_in from levels order) permuted (All-between (λ u. (from ≤ u) × (u < from + length levels)) from (from + length levels) (λ u a b. (a, b)))

    visual : IsVisualOrder levels (map (λ u. u - from) (written_in from levels order))
    visual = record {
      all_indexes = subst (λ l. IsPermutation l (map (λ u. u - from) (written_in from levels order))) (shifted from (length levels)) (IsPermutation-map (λ u. u - from) (between from (from + length levels)) (written_in from levels order) permuted);
      in_order = AllPairs-map (λ i j. stands_left levels i j ≡ true) (λ u. u - from) (written_in from levels order) (pairs-written_runs from levels (level_runs from levels) order cut h);
    }

-- `visual_runs` is what the line shows
pub visual_runs-are : (from : ℕ) (levels : List ℕ) → AreVisualRuns from levels (visual_runs from levels)
unfolding visual_runs
visual_runs-are from levels =
    let visual = visual_order-is (map (run_level from levels) (level_runs from levels)) in
    let each = order_below (map (run_level from levels) (level_runs from levels)) (runs_order from levels) (length (level_runs from levels)) (length-map (level_runs from levels) (run_level from levels)) visual in
    record {
      are_runs = rw (at_indexes-map (0, 0) (level_runs from levels) (runs_order from levels)) (All-map (IsLevelRun from levels) (run_at (level_runs from levels)) (runs_order from levels) (λ i d fits. level_runs-each from levels _ (0, 0) (each i d fits)));
      in_order = written-visual from levels (runs_order from levels) visual;
    }
