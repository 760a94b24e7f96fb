-- The bytes of a line of UTF-8, written from left to right, are UTF-8.
use Rattle.bidi_base.proofs.Common.{ℕ, List, [], ◌∷◌, flat_map, arith, inl, inr, cases_Bool, All-tail, zero, Range, IsUtf8, chars, encode_utf8, is_odd, IsLine, IsPerChar, Run, run_level}
use Rattle.bidi_base.proofs.Common.{visual_runs, levels_of_line, slice_range, All, len_utf8, scalars-chars, IsUtf8-nil, IsUtf8-append, IsUtf8-between}
use Rattle.bidi_base.specs.declared.char_data.BidiClass.{BidiClass}
use Rattle.bidi_text.proofs.StrLemmas.{has_units, IsCharBoundary-from_is_boundary, subrange-from_str}
use Rattle.bidi_lines.specs.LineUnits.{run_units, visual_units, line_units, AreRunsOfChars}
use Rattle.bidi_lines.proofs.ReversedUtf8.{backwards-utf8}
use Rattle.bidi_lines.proofs.TextOfLine.{visual_runs_at_boundaries}

IsUtf8-flat_map : {X : Type 0} (f : X → List ℕ) (xs : List X) → All (λ x. IsUtf8 (f x)) xs → IsUtf8 (flat_map f xs)
IsUtf8-flat_map f [] h = IsUtf8-nil
IsUtf8-flat_map f (x ∷ xs) h = IsUtf8-append (f x) (flat_map f xs) (h zero x (omega arith)) (IsUtf8-flat_map f xs (All-tail (λ x. IsUtf8 (f x)) x xs h))

module _ (text : List ℕ) (u : IsUtf8 text) where
  run_utf8 : (start : ℕ) (levels : List ℕ) (run : Run) → IsLine len_utf8 (chars text) run.0 run.1 → IsUtf8 (run_units len_utf8 encode_utf8 (chars text) text start levels run)
  run_utf8 start levels run line =
      let mid : IsUtf8 (slice_range text run.0 run.1) =
      IsUtf8-between text run.0 run.1 u line.ordered (IsCharBoundary-from_is_boundary text run.0 u line.begins) (IsCharBoundary-from_is_boundary text run.1 u line.ends) in
      elim (cases_Bool (is_odd (run_level start levels run))) [
        | inl odd ↦ simp (odd, subrange-from_str text run.0 run.1 u line mid) (backwards-utf8 (chars (slice_range text run.0 run.1)) (scalars-chars (slice_range text run.0 run.1) mid))
        | inr even ↦ simp even mid
      ]

  -- a line whose runs cut no character
  pub shown_utf8 : (start : ℕ) (levels : List ℕ) → AreRunsOfChars len_utf8 (chars text) start levels → IsUtf8 (visual_units len_utf8 encode_utf8 (chars text) text start levels)
  shown_utf8 start levels of_chars =
      IsUtf8-flat_map (run_units len_utf8 encode_utf8 (chars text) text start levels) (visual_runs start levels) (λ k d fits. run_utf8 start levels _ (of_chars k d fits))

  pub line_utf8 : (level : ℕ) (classes : List BidiClass) (levels : List ℕ) (line : Range ℕ) → IsPerChar len_utf8 (chars text) classes
      → IsPerChar len_utf8 (chars text) levels → IsLine len_utf8 (chars text) line.start line.end
      → IsUtf8 (line_units encode_utf8 text (record { len_of = len_utf8; chars = chars text; classes = classes; levels = levels }) level line)
  line_utf8 level classes levels line of_classes of_levels is_line =
      shown_utf8 line.start (levels_of_line level classes levels line.start line.end)
      (visual_runs_at_boundaries len_utf8 has_units (chars text) level classes levels line.start line.end of_classes of_levels is_line)
