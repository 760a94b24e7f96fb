-- What the tables have in common with Unicode's general categories and its mirrored characters, each by a computation over steps.
use Rattle.bidi_base.proofs.Common.{◌≡◌, ℕ, Bool, true, false, ◌&&◌, ◌||◌, not, ◌==◌, List, [], ◌∷◌, map, Option, Some, None, is_some, option_map}
use Rattle.bidi_base.proofs.Common.{option_and_then, refl, sym, ap, ◌∙◌, arith, inl, inr, beq, cases_Bool, nat_tests, holds_number}
use Rattle.std.proofs.Common.{is_none}
use Rattle.bidi_base.proofs.ChainLemmas.{holds_number-true}
use Rattle.ucd_table.specs.Rows.{Row, value_in}
use Rattle.ucd_table.proofs.Stepped.{Stepped, of_rows, zip_stepped}
use Rattle.ucd_table.proofs.StepsLemmas.{rises_from}
use Rattle.ucd_table.proofs.Facts.{Stepped-everywhere, same_from_beq}
use Rattle.ucd_table.proofs.RangedFacts.{points_ok, at_points, Stepped-at_points}
use Rattle.ucd_table.proofs.Computing.{tables}
use Rattle.ucd_bidi.specs.Binary.{is_bidi_mirrored}
use Rattle.ucd_bidi.proofs.BinaryLemmas.{is_bidi_mirrored_stepped}
use Rattle.ucd_category.specs.declared.GeneralCategory.{GeneralCategory}
use Rattle.ucd_category.specs.declared.GeneralCategory.TheVariants.{OpenPunctuation, ClosePunctuation}
use Rattle.ucd_category.specs.GeneralCategory.{general_category, general_category_eq}
use Rattle.ucd_category.proofs.GeneralCategoryLemmas.{general_category_stepped}
use Rattle.bidi_base.specs.declared.data_source.BidiMatchedOpeningBracket.{BidiMatchedOpeningBracket}
use Rattle.bidi_unicode.specs.declared.tables.Side.{Side}
use Rattle.bidi_unicode.specs.declared.tables.TheConstants.{BRACKETS, MIRRORED}
use Rattle.bidi_unicode.specs.Rows.{row_value}
use Rattle.bidi_unicode.specs.Unicode.{bracket_in, bracket_of, mirrored_of, is_opening, is_closing, other_bracket, is_mirrored_in}

-- the rows as the kit's tables have them, each of one code point
abbrev point_rows : {V : Type 0} → List (ℕ × V) → List (Row (Option V))
point_rows rows = map (λ r. (r.0, r.0, Some r.1)) rows

row_value-value_in : {V : Type 0} (rows : List (ℕ × V)) (c : ℕ) → row_value rows c ≡ value_in None (point_rows rows) c
unfolding value_in
row_value-value_in [] c = refl
row_value-value_in (r ∷ rs) c = grind (arith, nat_tests, row_value-value_in rs c)

abbrev stepped_rows : {V : Type 0} (rows : List (ℕ × V)) → rises_from 0 (point_rows rows) ≡ true → Stepped (row_value rows)
stepped_rows rows up =
    let s = of_rows None (point_rows rows) up in
    record { default = s.default; steps = s.steps; gives = λ c. row_value-value_in rows c ∙ s.gives c }

unfoldable brackets_stepped : Stepped (row_value BRACKETS)
unfolding rises_from
brackets_stepped = stepped_rows BRACKETS refl

unfoldable mirrored_stepped : Stepped (row_value MIRRORED)
unfolding rises_from
mirrored_stepped = stepped_rows MIRRORED refl

-- a test of the brackets' rows beside the category and the property together
abbrev agree_stepped : (test : Option (ℕ × Side) → Bool) (category : GeneralCategory) → Stepped (λ c. beq (test (row_value BRACKETS c)) (is_mirrored_in category c))
agree_stepped test category =
    zip_stepped (λ row m. beq (test row) m) (row_value BRACKETS) (is_mirrored_in category) brackets_stepped
    (zip_stepped (λ g m. general_category_eq g category && m) general_category is_bidi_mirrored general_category_stepped is_bidi_mirrored_stepped)

-- the row has the side, whatever its character is
abbrev opens : Option (ℕ × Side) → Bool
opens row = is_opening (option_map (λ (r : ℕ × Side). bracket_in 0 r.0 r.1) row)

abbrev closes : Option (ℕ × Side) → Bool
closes row = is_closing (option_map (λ (r : ℕ × Side). bracket_in 0 r.0 r.1) row)

opening_row : (c : ℕ) (row : Option (ℕ × Side)) → is_opening (option_map (λ (r : ℕ × Side). bracket_in c r.0 r.1) row) ≡ opens row
opening_row c row = grind arith

closing_row : (c : ℕ) (row : Option (ℕ × Side)) → is_closing (option_map (λ (r : ℕ × Side). bracket_in c r.0 r.1) row) ≡ closes row
closing_row c row = grind arith

openings_agree : (c : ℕ) → beq (opens (row_value BRACKETS c)) (is_mirrored_in OpenPunctuation c) ≡ true
unfolding tables brackets_stepped general_category_stepped is_bidi_mirrored_stepped
openings_agree = Stepped-everywhere _ (agree_stepped opens OpenPunctuation) refl

closings_agree : (c : ℕ) → beq (closes (row_value BRACKETS c)) (is_mirrored_in ClosePunctuation c) ≡ true
unfolding tables brackets_stepped general_category_stepped is_bidi_mirrored_stepped
closings_agree = Stepped-everywhere _ (agree_stepped closes ClosePunctuation) refl

-- the opening brackets are the mirrored characters of general category Ps
pub is_opening-bracket_of : (c : ℕ) → is_opening (bracket_of c) ≡ is_mirrored_in OpenPunctuation c
is_opening-bracket_of c = opening_row c (row_value BRACKETS c) ∙ same_from_beq _ _ (openings_agree c)

-- and the closing ones those of Pe
pub is_closing-bracket_of : (c : ℕ) → is_closing (bracket_of c) ≡ is_mirrored_in ClosePunctuation c
is_closing-bracket_of c = closing_row c (row_value BRACKETS c) ∙ same_from_beq _ _ (closings_agree c)

mirrored_agree : (c : ℕ) → (not (is_some (row_value MIRRORED c)) || is_bidi_mirrored c) ≡ true
unfolding tables mirrored_stepped is_bidi_mirrored_stepped
mirrored_agree =
    Stepped-everywhere _ (zip_stepped (λ (row : Option ℕ) m. not (is_some row) || m) (row_value MIRRORED) is_bidi_mirrored mirrored_stepped is_bidi_mirrored_stepped) refl

-- the partner of the partner is the character
abbrev comes_back : ℕ → Option ℕ → Bool
comes_back c None = true
comes_back c (Some p) = holds_number (row_value MIRRORED p) c

all_come_back : at_points (row_value MIRRORED) mirrored_stepped is_none comes_back ≡ true
unfolding tables mirrored_stepped points_ok
all_come_back = refl

-- a character with a partner is mirrored
pub mirrored_of-is_mirrored : (c : ℕ) → is_some (mirrored_of c) ≡ true → is_bidi_mirrored c ≡ true
mirrored_of-is_mirrored c some = simp some at (mirrored_agree c)

-- and is its partner's partner
pub mirrored_of-mirrored_of : (c p : ℕ) → mirrored_of c ≡ Some p → mirrored_of p ≡ Some c
mirrored_of-mirrored_of c p e =
    let back = Stepped-at_points (row_value MIRRORED) mirrored_stepped is_none comes_back all_come_back c (ap is_none e) in
    holds_number-true (row_value MIRRORED p) c (ap (comes_back c) (sym e) ∙ back)

-- the two tables together
abbrev both_rows : ℕ → Option ℕ × Option (ℕ × Side)
both_rows c = (row_value MIRRORED c, row_value BRACKETS c)

abbrev both_stepped : Stepped both_rows
both_stepped = zip_stepped (λ (m : Option ℕ) (b : Option (ℕ × Side)). (m, b)) (row_value MIRRORED) (row_value BRACKETS) mirrored_stepped brackets_stepped

-- neither table has a row
abbrev both_absent : Option ℕ × Option (ℕ × Side) → Bool
both_absent rows = not (is_some rows.0 || is_some rows.1)

abbrev same_bracket : Option BidiMatchedOpeningBracket → Option BidiMatchedOpeningBracket → Bool
same_bracket None None = true
same_bracket (Some a) (Some b) = a.opening == b.opening && beq a.is_open b.is_open
same_bracket a b = false

same_bracket-true : (a b : Option BidiMatchedOpeningBracket) → same_bracket a b ≡ true → a ≡ b
same_bracket-true a b h = grind (arith, nat_tests, same_from_beq)

-- the partner is the other bracket of the pair
abbrev pairs_up : ℕ → Option ℕ × Option (ℕ × Side) → Bool
pairs_up c rows =
    same_bracket (option_and_then bracket_of rows.0) (option_map other_bracket (option_map (λ (r : ℕ × Side). bracket_in c r.0 r.1) rows.1))

all_pair_up : at_points both_rows both_stepped both_absent pairs_up ≡ true
unfolding tables mirrored_stepped brackets_stepped points_ok
all_pair_up = refl

pairs_up-absent : (c : ℕ) (m : Option ℕ) (b : Option (ℕ × Side)) → both_absent (m, b) ≡ true → pairs_up c (m, b) ≡ true
pairs_up-absent c m b h = grind arith

-- the mirrored partner of a bracket is the other bracket of its pair
pub bracket_of-mirrored_of : (c : ℕ) → option_and_then bracket_of (mirrored_of c) ≡ option_map other_bracket (bracket_of c)
bracket_of-mirrored_of c = same_bracket-true _ _ (elim (cases_Bool (both_absent (both_rows c))) [
  | inl absent ↦ pairs_up-absent c (row_value MIRRORED c) (row_value BRACKETS c) absent
  | inr found ↦ Stepped-at_points both_rows both_stepped both_absent pairs_up all_pair_up c found
])
