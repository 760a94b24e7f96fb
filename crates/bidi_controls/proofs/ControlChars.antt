-- Which characters have the class of a direction control or of a letter from right to left, by Unicode's data.
use Rattle.bidi_base.proofs.Common.{◌≡◌, ℕ, zero, suc, ◌+◌, ◌<◌, ◌≤◌, Bool, true, false, not, ◌||◌, List, [], ◌∷◌, refl, ◌∙◌, arith, beq, is_opener, is_pdi, is_pdf, nat_tests}
use Rattle.bidi_base.proofs.Common.{and_parts, cases_eq, inl, inr, list_all, not-true, range_with_len}
use Rattle.bidi_base.specs.declared.char_data.BidiClass.{BidiClass}
use Rattle.ucd_table.specs.Rows.{in_ranges}
use Rattle.ucd_table.specs.Steps.{step_value}
use Rattle.ucd_table.proofs.Computing.{tables}
use Rattle.ucd_table.proofs.Stepped.{Stepped, of_ranges, zip_stepped}
use Rattle.ucd_table.proofs.Facts.{Stepped-everywhere, same_from_beq}
use Rattle.ucd_bidi.specs.BidiClass.{bidi_class}
use Rattle.ucd_bidi.specs.declared.BidiClass as Property
use Rattle.ucd_bidi.proofs.BidiClassLemmas.{bidi_class_stepped}
use Rattle.bidi_unicode.specs.Unicode.{class_named, unicode_source}
use Rattle.bidi_controls.specs.ControlBytes.{is_control_char}
use Rattle.bidi_controls.specs.Displayed.{is_right_to_left}

-- an embedding, an override, an isolate initiator, a PDF or a PDI
abbrev pub is_control_class : BidiClass → Bool
is_control_class class = is_opener class || (is_pdi class || is_pdf class)

abbrev control_ranges : List (ℕ × ℕ)
control_ranges = (0x202A, 0x202E) ∷ (0x2066, 0x2069) ∷ []

abbrev agrees : Property.BidiClass → Bool → Bool
agrees value inside = beq (is_control_class (class_named value)) inside

ranges_stepped : Stepped (in_ranges control_ranges)
unfolding tables
ranges_stepped = of_ranges control_ranges refl

abbrev agrees_stepped : Stepped (λ c. agrees (bidi_class c) (in_ranges control_ranges c))
agrees_stepped = zip_stepped agrees bidi_class (in_ranges control_ranges) bidi_class_stepped ranges_stepped

all_agree : (c : ℕ) → agrees (bidi_class c) (in_ranges control_ranges c) ≡ true
unfolding tables bidi_class_stepped ranges_stepped
all_agree = Stepped-everywhere (λ c. agrees (bidi_class c) (in_ranges control_ranges c)) agrees_stepped refl

not_in_ranges : (c : ℕ) → is_control_char c ≡ false → in_ranges control_ranges c ≡ false
unfolding in_ranges
not_in_ranges c h = grind (arith, nat_tests)

-- other characters have other classes
pub control_class-char : (c : ℕ) → is_control_char c ≡ false → is_control_class (unicode_source.class_of c) ≡ false
unfolding unicode_source
control_class-char c h = same_from_beq (is_control_class (class_named (bidi_class c))) (in_ranges control_ranges c) (all_agree c) ∙ not_in_ranges c h

-- ---- letters from right to left

low_letters : list_all (λ c. not (is_right_to_left (class_named (step_value bidi_class_stepped.default bidi_class_stepped.steps c)))) (range_with_len 0 128) ≡ true
unfolding tables bidi_class_stepped
low_letters = refl

all_from : (test : ℕ → Bool) (start n c : ℕ) → list_all test (range_with_len start n) ≡ true → start ≤ c → c < start + n → test c ≡ true
all_from test start zero c all low high = absurd (omega arith)
all_from test start (suc n) c all low high =
    let parts = and_parts (test start) (list_all test (range_with_len (start + 1) n)) all in
    elim (cases_eq c start) [
      | inl same ↦ rw same parts.0
      | inr other ↦ all_from test (start + 1) n c parts.1 (omega arith) (omega arith)
    ]

-- no ASCII character is one
pub ascii-no_letter : (c : ℕ) → c < 128 → is_right_to_left (unicode_source.class_of c) ≡ false
unfolding unicode_source
ascii-no_letter c low =
    rw (bidi_class_stepped.gives c)
    (not-true _ (all_from (λ x. not (is_right_to_left (class_named (step_value bidi_class_stepped.default bidi_class_stepped.steps x)))) 0 128 c low_letters (omega arith) (omega arith)))
