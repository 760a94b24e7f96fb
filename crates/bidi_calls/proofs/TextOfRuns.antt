-- The text of a line from left to right, written run by run, for code units of any type.
use Rattle.bidi_base.proofs.Common.{◌≡◌, ℕ, zero, suc, ◌+◌, ◌-◌, ◌<◌, ◌≤◌, List, [], ◌∷◌, ◌++◌, map, flat_map, length, get_or, drop, refl, sym, ap, ◌∙◌, arith, inl, inr, cases_Bool, zero-add, range_with_len}
use Rattle.bidi_base.proofs.Common.{get_or-map, get_or-take, get_or-drop, length-map, drop-drop, flat_map-map, flat_map-append, All-permutation, IsPermutation-reverse, same_number_lists, is_odd, between}
use Rattle.bidi_base.proofs.Common.{unit_index, per_char, Run, run_level, visual_order, visual_runs, written_run, written_runs, IsLevelRun, IsPerChar, slice_range, map-id, take-add, sub-zero}
use Rattle.std.proofs.Common.{add-zero}
use Rattle.std.proofs.Math.Nat.{sub_self}
use Rattle.bidi_base.proofs.Lists.{map-reverse}
use Rattle.bidi_base.proofs.PerUnit.{length-per_char}
use Rattle.bidi_base.proofs.TextLemmas.{HasUnits}
use Rattle.bidi_base.proofs.UnitIndexLemmas.{unit_index-more, unit_index-mono, char_index-unit_index}
use Rattle.bidi_base.proofs.UnitsLemmas.{per_unit-from_IsPerChar}
use Rattle.bidi_lines.proofs.LineInText.{length-part}
use Rattle.bidi_lines.proofs.Pieces.{All-between, length-between, get_or-between}
use Rattle.bidi_lines.proofs.CharRuns.{units_of, place_from, run_level-units, visual_runs-units}
use Rattle.bidi_lines.proofs.RunText.{flat_map-same_on}
use Rattle.bidi_lines.proofs.VisualRuns.{visual_runs-are}
use Rattle.bidi_lines.specs.LineUnits.{run_units, visual_units}
use Rattle.bidi_calls.specs.LineText.{written_units}

flat_map-flat_map : {A B C : Type 0} (g : B → List C) (f : A → List B) (xs : List A) → flat_map g (flat_map f xs) ≡ flat_map (λ x. flat_map g (f x)) xs
flat_map-flat_map g f [] = refl
flat_map-flat_map g f (x ∷ xs) = simp (flat_map-append, flat_map-flat_map g f xs)

slice_range-append : {X : Type 0} (xs : List X) (i j k : ℕ) → i ≤ j → j ≤ k → slice_range xs i j ++ slice_range xs j k ≡ slice_range xs i k
slice_range-append xs i j k a b = grind (arith, drop-drop, take-add (j - i) (k - j) (drop i xs))

-- the characters at consecutive indexes
chars-joined : (chars : List ℕ) (a b : ℕ) → b ≤ length chars → map (λ k. get_or chars k 0) (between a b) ≡ slice_range chars a b
chars-joined chars a b fits = same_number_lists _ _ (simp (length-map, length-between, length-part chars a b fits))
    (λ k inside. grind (arith, length-map, length-between, get_or-map (λ k. get_or chars k 0) (between a b) k 0 0, get_or-between a b k 0, get_or-take, get_or-drop))

module _ {X : Type 0} (len_of : ℕ → ℕ) (some : HasUnits len_of) (encode : ℕ → List X) (chars : List ℕ) (units : List X) where
  -- the code units of the k-th character
  abbrev own_units : ℕ → List X
  own_units k = slice_range units (unit_index len_of chars k) (unit_index len_of chars k + len_of (get_or chars k 0))

  -- those of characters that follow one another
  units-joined : (a n : ℕ) → a + n ≤ length chars → flat_map own_units (range_with_len a n) ≡ slice_range units (unit_index len_of chars a) (unit_index len_of chars (a + n))
  units-joined a zero fits = simp (add-zero, sub_self)
  units-joined a (suc n) fits = grind (arith, unit_index-more, unit_index-mono, slice_range-append, units-joined (a + 1) n)

  module _ (levels : List ℕ) (equal : IsPerChar len_of chars levels) where
    -- the levels of the characters
    abbrev own : List ℕ
    own = per_char 0 len_of chars levels

    own_long : length own ≡ length chars
    own_long = length-per_char 0 len_of chars levels

    abbrev written : ℕ → List X
    written = written_units len_of encode chars units own

    -- a run of code units is written as that of its characters
    one_run : (run : Run) → IsLevelRun 0 own run
        → run_units len_of encode chars units 0 levels (units_of (place_from 0 len_of chars) run) ≡ flat_map written (written_run 0 own run)
    one_run run h =
        let fits : run.1 ≤ length chars = omega (arith, h.ends_within, own_long) in
        let same : run_level 0 levels (units_of (place_from 0 len_of chars) run) ≡ run_level 0 own run =
        ap (λ ls. run_level 0 ls (units_of (place_from 0 len_of chars) run)) (per_unit-from_IsPerChar 0 len_of some chars levels equal) ∙ run_level-units 0 len_of some chars own own_long run h in
        let level = simp zero-add at same in
        let unit : (u : ℕ) → run.0 ≤ u → u < run.1 → get_or own u 0 ≡ run_level 0 own run = λ u a b. simp sub-zero (simp sub-zero at (h.equal u a b)) in
        elim (cases_Bool (is_odd (run_level 0 own run))) [
          | inl odd ↦
              simp (
                zero-add,
                level,
                odd,
                char_index-unit_index len_of chars some run.0 (omega (arith, h.not_empty)),
                char_index-unit_index len_of chars some run.1 (omega arith),
                ← chars-joined chars run.0 run.1 fits,
                ← map-reverse,
                flat_map-map,
              )
              (sym (flat_map-same_on _ _ _ (All-permutation (λ k. written k ≡ encode (get_or chars k 0)) _ _ (IsPermutation-reverse (between run.0 run.1))
              (All-between (λ k. written k ≡ encode (get_or chars k 0)) run.0 run.1 (λ u a b. simp (unit u a b, odd))))))
          | inr even ↦
              let last : run.0 + (run.1 - run.0) ≡ run.1 = omega (arith, h.not_empty) in
              let each = All-between (λ k. written k ≡ own_units k) run.0 run.1 (λ u a b. simp (unit u a b, even)) in
              simp (zero-add, level, even, flat_map-same_on written own_units (between run.0 run.1) each)
              (simp last at (sym (units-joined run.0 (run.1 - run.0) (omega (arith, last)))))
        ]

    -- the code units of all runs are those of the characters in their visual order
    pub visual_units-chars : visual_units len_of encode chars units 0 levels ≡ flat_map written (visual_order own)
    unfolding written_runs
    visual_units-chars =
        let runs = visual_runs-are 0 own in
        let order = simp (zero-add, map-id) at runs.in_order in
        let own-runs : visual_runs 0 levels ≡ map (units_of (place_from 0 len_of chars)) (visual_runs 0 own) =
        ap (visual_runs 0) (per_unit-from_IsPerChar 0 len_of some chars levels equal) ∙ visual_runs-units 0 len_of some chars own own_long in
        ap (flat_map (run_units len_of encode chars units 0 levels)) own-runs
        ∙ flat_map-map (run_units len_of encode chars units 0 levels) (units_of (place_from 0 len_of chars)) (visual_runs 0 own)
        ∙ flat_map-same_on _ _ (visual_runs 0 own) (λ k d fits. one_run (get_or (visual_runs 0 own) k d) (runs.are_runs k d fits))
        ∙ sym (flat_map-flat_map written (written_run 0 own) (visual_runs 0 own))
        ∙ ap (flat_map written) order
