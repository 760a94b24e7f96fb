-- The reordered text of a line is that of its runs, from left to right.
use Rattle.bidi_base.proofs.Common.{◌≡◌, ℕ, zero, suc, ◌+◌, ◌-◌, ◌<◌, ◌≤◌, List, [], ◌∷◌, ◌++◌, map, flat_map, length, get_or, drop, refl, sym, arith, inl, inr, zero-add, le_refl, range_with_len}
use Rattle.bidi_base.proofs.Common.{cases_Bool, get_or-map, length-map, drop-drop, flat_map-map, All-tail, All-permutation, IsPermutation-reverse, flat_map-append, same_number_lists, is_odd}
use Rattle.bidi_base.proofs.Common.{between, unit_index, text_len, per_unit, Run, run_level, visual_runs, written_run, written_runs, reordered_text, IsLevelRun, slice_range, All, map-id, take_all}
use Rattle.bidi_base.proofs.Common.{run_text, take-add, sub-zero}
use Rattle.std.proofs.Common.{add-zero}
use Rattle.bidi_base.specs.Display.{written_char, char_units}
use Rattle.bidi_laws.proofs.OrderLemmas.{get_or-slice_range, length-slice_range}
use Rattle.bidi_base.proofs.TextLemmas.{HasUnits}
use Rattle.bidi_base.proofs.UnitIndexLemmas.{unit_index-zero, unit_index-more, unit_index-mono, char_index-unit_index}
use Rattle.bidi_base.proofs.Lists.{map-reverse}
use Rattle.bidi_lines.proofs.Pieces.{All-between, length-between, get_or-between}
use Rattle.bidi_lines.specs.ArrangedItems.{NoneIsOdd}
use Rattle.bidi_lines.proofs.Ordered.{visual_order-still}
use Rattle.bidi_lines.proofs.VisualRuns.{visual_runs-are}
use Rattle.std.proofs.Math.Nat.{sub_self}
use Rattle.bidi_lines.proofs.CharRuns.{units_of, place_from, visual_runs-units, run_level-units}

pub flat_map-same_on : {A B : Type 0} (f g : A → List B) (xs : List A) → All (λ x. f x ≡ g x) xs → flat_map f xs ≡ flat_map g xs
flat_map-same_on f g [] h = refl
flat_map-same_on f g (x ∷ xs) h = cc (h zero x (omega arith), flat_map-same_on f g xs (All-tail (λ x. f x ≡ g x) x xs h))

flat_map-flat_map : {A B C : Type 0} (g : B → List C) (f : A → List B) (xs : List A) → flat_map g (flat_map f xs) ≡ flat_map (λ x. flat_map g (f x)) xs
flat_map-flat_map g f [] = refl
flat_map-flat_map g f (x ∷ xs) = simp (flat_map-append, flat_map-flat_map g f xs)

slice_range-append : (xs : List ℕ) (i j k : ℕ) → i ≤ j → j ≤ k → slice_range xs i j ++ slice_range xs j k ≡ slice_range xs i k
slice_range-append xs i j k a b = grind (arith, drop-drop, take-add (j - i) (k - j) (drop i xs))

-- the units of characters that follow one another
units-joined : (len_of : ℕ → ℕ) (chars units : List ℕ) (a n : ℕ) → a + n ≤ length chars
    → flat_map (char_units len_of chars units) (range_with_len a n) ≡ slice_range units (unit_index len_of chars a) (unit_index len_of chars (a + n))
units-joined len_of chars units a zero fits = simp (add-zero, sub_self)
units-joined len_of chars units a (suc n) fits = grind (arith, unit_index-more, unit_index-mono, slice_range-append, units-joined len_of chars units (a + 1) n)

-- the characters at consecutive indexes
chars-joined : (chars : List ℕ) (a b : ℕ) → b ≤ length chars → map (λ k. get_or chars k 0) (between a b) ≡ slice_range chars a b
chars-joined chars a b fits = same_number_lists _ _ (simp (length-map, length-between, length-slice_range chars a b fits))
    (λ k inside. grind (arith, length-map, length-between, get_or-map (λ k. get_or chars k 0) (between a b) k 0 0, get_or-between a b k 0, get_or-slice_range chars a b k))

-- the text of one run of characters
one_run : (len_of : ℕ → ℕ) → HasUnits len_of → (encode : ℕ → List ℕ) (chars units levels : List ℕ) → length levels ≡ length chars → (from : ℕ) (run : Run) → IsLevelRun 0 levels run
    → run_text len_of encode chars units from (per_unit len_of chars levels) (units_of (place_from from len_of chars) run)
    ≡ flat_map (written_char len_of encode chars units levels) (written_run 0 levels run)
one_run len_of some encode chars units levels e from run h =
    let fits : run.1 ≤ length chars = omega (arith, h.ends_within) in
    let begins : place_from from len_of chars run.0 - from ≡ unit_index len_of chars run.0 = omega arith in
    let ends : place_from from len_of chars run.1 - from ≡ unit_index len_of chars run.1 = omega arith in
    let level = simp begins at (run_level-units from len_of some chars levels e run h) in
    let unit : (u : ℕ) → run.0 ≤ u → u < run.1 → get_or levels u 0 ≡ run_level 0 levels run = λ u a b. simp sub-zero (simp sub-zero at (h.equal u a b)) in
    elim (cases_Bool (is_odd (run_level 0 levels run))) [
      | inl odd ↦
          simp (
            level,
            odd,
            begins,
            ends,
            char_index-unit_index len_of chars some run.0 (omega arith),
            char_index-unit_index len_of chars some run.1 (omega arith),
            ← chars-joined chars run.0 run.1 fits,
            ← map-reverse,
            flat_map-map,
          )
          (sym (flat_map-same_on _ _ _ (All-permutation (λ k. written_char len_of encode chars units levels k ≡ encode (get_or chars k 0)) _ _ (IsPermutation-reverse (between run.0 run.1))
          (All-between (λ k. written_char len_of encode chars units levels k ≡ encode (get_or chars k 0)) run.0 run.1 (λ u a b. simp (unit u a b, odd))))))
      | inr even ↦
          let last : run.0 + (run.1 - run.0) ≡ run.1 = omega arith in
          let each = All-between (λ k. written_char len_of encode chars units levels k ≡ char_units len_of chars units k) run.0 run.1 (λ u a b. simp (unit u a b, even)) in
          simp (level, even, begins, ends, flat_map-same_on (written_char len_of encode chars units levels) (char_units len_of chars units) (between run.0 run.1) each)
          (simp last at (sym (units-joined len_of chars units run.0 (run.1 - run.0) (omega arith))))
    ]

-- The text in the visual order of the characters is the text of the visual runs of the units.
pub reordered_text-runs : (len_of : ℕ → ℕ) → HasUnits len_of → (encode : ℕ → List ℕ) (chars units levels : List ℕ) → length levels ≡ length chars → (from : ℕ)
    → reordered_text len_of encode chars units levels
    ≡ flat_map (run_text len_of encode chars units from (per_unit len_of chars levels)) (visual_runs from (per_unit len_of chars levels))
unfolding reordered_text written_runs
reordered_text-runs len_of some encode chars units levels e from =
    let runs = visual_runs-are 0 levels in
    let order = simp (zero-add, map-id) at runs.in_order in
    simp (← order, flat_map-flat_map, visual_runs-units from len_of some chars levels e, flat_map-map)
    (sym (flat_map-same_on _ _ (visual_runs 0 levels) (λ k d fits. one_run len_of some encode chars units levels e from (get_or (visual_runs 0 levels) k d) (runs.are_runs k d fits))))

-- Where no level is odd, the text stands as it is.
pub reordered_text-still : (len_of : ℕ → ℕ) (encode : ℕ → List ℕ) (chars units levels : List ℕ) → length levels ≡ length chars → length units ≡ text_len len_of chars
    → NoneIsOdd levels → reordered_text len_of encode chars units levels ≡ units
unfolding reordered_text
reordered_text-still len_of encode chars units levels e long even =
    let all : 0 + length levels ≡ length chars = omega arith in
    let each = simp sub-zero at (All-between (λ k. written_char len_of encode chars units levels k ≡ char_units len_of chars units k) 0 (length levels)
    (λ u a b. grind (arith, even u b))) in
    let own = flat_map-same_on (written_char len_of encode chars units levels) (char_units len_of chars units) (range_with_len 0 (length levels)) each in
    simp (visual_order-still levels even, own, units-joined len_of chars units 0 (length levels) (omega arith), all, unit_index-zero, sub-zero, take_all, le_refl, ← long)
