-- The text of a line whose classes and levels are kept, and equal within each character.
use Rattle.bidi_base.proofs.Common.{◌≡◌, ℕ, ◌+◌, ◌-◌, true, nat_le, List, length, refl, sym, ap, subst, ◌∙◌, arith, take_all, le_refl, char_index, subrange, text_len, per_char, per_unit}
use Rattle.bidi_base.proofs.Common.{line_text, levels_of_line, char_levels_of_line, IsLine, IsPerChar, sub-zero}
use Rattle.bidi_base.proofs.Common.{◌<◌, [], ◌∷◌, All, map, get_or, drop-cons, inl, inr, cases_Bool, is_odd, visual_order, unit_index, one_unit}
use Rattle.std.proofs.lemmas.List.Concat.{flat_map_single}
use Rattle.bidi_base.specs.declared.char_data.BidiClass.TheVariants.{L}
use Rattle.bidi_base.proofs.PerUnit.{length-per_char, per_char-per_unit}
use Rattle.bidi_base.proofs.UnitIndexLemmas.{unit_index-zero, unit_index-end, char_index-unit_index, unit_index-one_unit, text_len-one_unit}
use Rattle.bidi_base.proofs.TextLemmas.{HasUnits}
use Rattle.bidi_lines.proofs.LineInText.{length-line}
use Rattle.bidi_lines.proofs.Ordered.{visual_order-is}
use Rattle.bidi_lines.proofs.RunText.{flat_map-same_on}
use Rattle.bidi_lines.proofs.VisualRuns.{order_below}
use Rattle.bidi_lines.proofs.VisualUnits.{length-visual_units}
use Rattle.bidi_lines.proofs.StoredLine.{classes_IsPerChar, levels_IsPerChar}
use Rattle.bidi_lines.proofs.TextOfLine.{flat_map-runs, levels_of_line-per_unit, visual_runs_at_boundaries}
use Rattle.bidi_lines.specs.LineUnits.{visual_units, AreRunsOfChars}
use Rattle.bidi_calls.proofs.CountLemmas.{per_char-plain}
use Rattle.bidi_calls.proofs.TextOfRuns.{visual_units-chars}
use Rattle.unicode_bidi.proofs.WholeText.{whole-IsLine}
use Rattle.bidi_calls.proofs.CallerLines.{length-own_levels, length-caller_line_levels, caller_line_levels-own}
use Rattle.bidi_calls.specs.declared.line.CallerLine.{CallerLine}
use Rattle.bidi_calls.specs.CallerLine.{IsValid, own_levels, caller_line_levels}
use Rattle.bidi_calls.specs.LineText.{are_entries_per_char, line_classes, order_of_line, written_units, reordered, reordered_fault}
use Rattle.bidi_numbers.specs.Faults.{fault_unless}
use Rattle.bidi_numbers.specs.declared.fault.Fault.TheVariants.{NoRoom}

module _ (len_of : ℕ → ℕ) (some : HasUnits len_of) (chars : List ℕ) (l : CallerLine) (valid : IsValid l)
    (equal : are_entries_per_char len_of chars l ≡ true) (long : text_len len_of chars + l.start ≡ l.end) where
  of_classes : IsPerChar len_of chars (line_classes l)
  of_classes = classes_IsPerChar len_of some chars (line_classes l) (grind arith)

  of_levels : IsPerChar len_of chars (own_levels l)
  of_levels = levels_IsPerChar len_of some chars (own_levels l) (grind arith)

  after_l1-is : levels_of_line l.paragraph.now.level (line_classes l) (own_levels l) 0 (text_len len_of chars) ≡ caller_line_levels l
  after_l1-is = caller_line_levels-own l valid l.paragraph.now.level (text_len len_of chars) (line_classes l) (own_levels l) refl refl refl (omega (arith, long, length-own_levels l valid))

  pub caller-is_line : IsLine len_of chars 0 (text_len len_of chars)
  caller-is_line = whole-IsLine len_of chars (text_len len_of chars) refl

  pub caller-runs : AreRunsOfChars len_of chars 0 (caller_line_levels l)
  caller-runs = subst (AreRunsOfChars len_of chars 0) after_l1-is
      (visual_runs_at_boundaries len_of some chars l.paragraph.now.level (line_classes l) (own_levels l) 0 (text_len len_of chars) of_classes of_levels caller-is_line)

  -- the line is the whole of its text
  pub whole-subrange : subrange len_of chars 0 (text_len len_of chars) ≡ chars
  whole-subrange =
      let n : ℕ = text_len len_of chars in
      let first : char_index len_of chars 0 ≡ 0 = grind (arith, unit_index-zero len_of chars, char_index-unit_index len_of chars some 0) in
      let last : char_index len_of chars n ≡ length chars = grind (arith, unit_index-end len_of chars (length chars), char_index-unit_index len_of chars some (length chars)) in
      simp (first, last, sub-zero) (take_all (length chars) chars (le_refl (length chars)))

  -- the levels of its characters after L1
  abbrev pub of_chars : List ℕ
  of_chars =
      char_levels_of_line len_of chars l.paragraph.now.level (line_classes l) (own_levels l) 0 (text_len len_of chars)

  pub length-of_chars : length of_chars ≡ length chars
  length-of_chars =
      let n : ℕ = text_len len_of chars in
      let first : char_index len_of chars 0 ≡ 0 = grind (arith, unit_index-zero len_of chars, char_index-unit_index len_of chars some 0) in
      let last : char_index len_of chars n ≡ length chars = grind (arith, unit_index-end len_of chars (length chars), char_index-unit_index len_of chars some (length chars)) in
      grind (arith, length-line, length-per_char, first, last)

  repeated : caller_line_levels l ≡ per_unit len_of chars of_chars
  repeated =
      let level : ℕ = l.paragraph.now.level in
      let n : ℕ = text_len len_of chars in
      sym after_l1-is ∙ levels_of_line-per_unit len_of some chars level (line_classes l) (own_levels l) 0 n of_classes of_levels caller-is_line ∙ ap (λ cs. per_unit len_of cs of_chars) whole-subrange

  -- the levels after L1 are equal within each character too
  pub caller-per_char : IsPerChar len_of chars (caller_line_levels l)
  caller-per_char = (of_chars, length-of_chars, repeated)

  -- and one of them for each character
  pub caller-chars : per_char 0 len_of chars (caller_line_levels l) ≡ of_chars
  caller-chars = ap (per_char 0 len_of chars) repeated ∙ per_char-per_unit len_of some 0 chars of_chars length-of_chars

  -- its runs, written one after another, are its characters in their visual order
  pub caller-text : {X : Type 0} (encode : ℕ → List X) (units : List X) → visual_units len_of encode chars units 0 (caller_line_levels l) ≡ reordered len_of encode chars units l
  unfolding reordered order_of_line
  caller-text encode units = visual_units-chars len_of some encode chars units (caller_line_levels l) caller-per_char

  -- and the text of the line by the definition of a line's text
  pub reordered-line_text : (encode : ℕ → List ℕ) (units : List ℕ) → length units ≡ text_len len_of chars
      → reordered len_of encode chars units l
      ≡ line_text len_of encode chars units l.paragraph.now.level (per_char L len_of chars (line_classes l)) (per_char 0 len_of chars (own_levels l)) 0 (length units)
  reordered-line_text encode units e =
      sym (caller-text encode units)
      ∙ ap (visual_units len_of encode chars units 0) (sym after_l1-is)
      ∙ flat_map-runs len_of some chars l.paragraph.now.level (line_classes l) (own_levels l) 0 (text_len len_of chars) of_classes of_levels caller-is_line encode units _ e refl
      ∙ ap (line_text len_of encode chars units l.paragraph.now.level (per_char L len_of chars (line_classes l)) (per_char 0 len_of chars (own_levels l)) 0) (sym e)

  -- it has as many code units as the line
  pub length-shown : {X : Type 0} (encode : ℕ → List X) (units : List X) → length units ≡ text_len len_of chars → ((c : ℕ) → length (encode c) ≡ len_of c)
      → length (reordered len_of encode chars units l) ≡ length (caller_line_levels l)
  length-shown encode units e each =
      let after_l1 = length-caller_line_levels l valid in
      ap length (sym (caller-text encode units))
      ∙ length-visual_units len_of some encode each chars units 0 (caller_line_levels l) caller-runs (omega (arith, e, long, after_l1))

  pub length-caller : {X : Type 0} (encode : ℕ → List X) (units : List X) → length units ≡ text_len len_of chars → ((c : ℕ) → length (encode c) ≡ len_of c)
      → length (reordered len_of encode chars units l) ≡ l.end - l.start
  length-caller encode units e each = omega (arith, length-shown encode units e each, length-caller_line_levels l valid)

-- what a call for the text of a line reports, by what it finds
module _ {X : Type 0} (len_of : ℕ → ℕ) (encode : ℕ → List X) (chars : List ℕ) (units : List X) (l : CallerLine) (room : ℕ) where
  pub reported-room : (count : ℕ) → are_entries_per_char len_of chars l ≡ true → length (reordered len_of encode chars units l) ≡ count
      → reordered_fault len_of encode chars units l room ≡ fault_unless (nat_le count room) NoRoom
  reported-room count equal e = simp (equal, e)

-- in a list of characters, the text of a line is its characters in their visual order
pub reordered-chars : (chars : List ℕ) (l : CallerLine) → IsValid l → length chars + l.start ≡ l.end
    → reordered one_unit (λ c. c ∷ []) chars chars l ≡ map (λ k. get_or chars k 0) (visual_order (caller_line_levels l))
unfolding reordered order_of_line
reordered-chars chars l valid long =
    let some : HasUnits one_unit = λ c. omega arith in
    let shown : List ℕ = caller_line_levels l in
    let size : length shown ≡ length chars = omega (arith, length-caller_line_levels l valid, long) in
    let plain : shown ≡ per_char 0 one_unit chars shown = per_char-plain one_unit some chars shown (omega (arith, text_len-one_unit chars)) (omega (arith, size, text_len-one_unit chars)) in
    let below = order_below shown (visual_order shown) (length chars) size (visual_order-is shown) in
    let each : All (λ k. written_units one_unit (λ c. c ∷ []) chars chars shown k ≡ get_or chars k 0 ∷ []) (visual_order shown) = λ i d fits. one_char chars shown (get_or (visual_order shown) i d) (below i d fits) in
    rw (← plain) (flat_map-same_on (written_units one_unit (λ c. c ∷ []) chars chars shown) (λ k. get_or chars k 0 ∷ []) (visual_order shown) each ∙ flat_map_single (λ k. get_or chars k 0) (visual_order shown))
  where
    one_char : (chars shown : List ℕ) (k : ℕ) → k < length chars → written_units one_unit (λ c. c ∷ []) chars chars shown k ≡ get_or chars k 0 ∷ []
    one_char chars shown k within = elim (cases_Bool (is_odd (get_or shown k 0))) [
      | inl odd ↦ simp odd refl
      | inr even ↦
          let at : unit_index one_unit chars k ≡ k = unit_index-one_unit chars k (omega arith) in
          let one : k + 1 - k ≡ 1 = omega arith in
          simp (even, at, one, drop-cons chars k 0 within) refl
    ]
