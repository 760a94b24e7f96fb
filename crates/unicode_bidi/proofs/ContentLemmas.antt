-- The content of a paragraph: where its separators begin, and that no character is cut there.
use Rattle.bidi_base.proofs.Common.{◌≡◌, ◌∙◌, ℕ, zero, suc, ◌+◌, ◌-◌, ◌<◌, ◌≤◌, true, false, List, [], ◌∷◌, ◌++◌, length, get_or, inl, inr, refl, sym, ap, arith, take, take_more, cases_lt}
use Rattle.bidi_base.proofs.Common.{nat_tests, length-take, get_or-take, get_or-drop, slice_range, is_boundary, unit_index, text_len, per_unit, IsLine}
use Rattle.bidi_base.proofs.PerUnit.{get_or-per_unit}
use Rattle.bidi_base.proofs.TextLemmas.{HasUnits, is_boundary-le}
use Rattle.bidi_base.proofs.UnitIndexLemmas.{unit_of, is_boundary-unit_index}
use Rattle.bidi_base.proofs.UnitsLemmas.{length-from_IsPerChar}
use Rattle.bidi_base.specs.Classes.{is_paragraph_separator}
use Rattle.bidi_base.specs.PerChar.{HaveClass}
use Rattle.bidi_base.specs.declared.char_data.BidiClass.{BidiClass}
use Rattle.bidi_base.specs.declared.char_data.BidiClass.TheVariants.{L}
use Rattle.bidi_lines.proofs.LineInText.{length-part}
use Rattle.bidi_lines.proofs.StoredLine.{classes_IsPerChar}
use Rattle.unicode_bidi.specs.Content.{content_len}

-- ---- the length of the content

pub content_len-le : (cs : List BidiClass) → content_len cs ≤ length cs
content_len-le [] = omega arith
content_len-le (c ∷ cs) = grind (arith, nat_tests, content_len-le cs)

-- one more separator at the end
content_len-separator : (cs : List BidiClass) (c : BidiClass) → is_paragraph_separator c ≡ true → content_len (cs ++ c ∷ []) ≡ content_len cs
content_len-separator [] c e = grind (arith, nat_tests)
content_len-separator (d ∷ ds) c e = grind (arith, nat_tests, content_len-separator ds c e)

-- any other class at the end
content_len-other : (cs : List BidiClass) (c : BidiClass) → is_paragraph_separator c ≡ false → content_len (cs ++ c ∷ []) ≡ suc (length cs)
content_len-other [] c e = grind (arith, nat_tests)
content_len-other (d ∷ ds) c e = grind (arith, nat_tests, content_len-other ds c e)

-- the last class of the content is no separator
last_is_other : (cs : List BidiClass) (k : ℕ) → content_len cs ≡ suc k → is_paragraph_separator (get_or cs k L) ≡ false
last_is_other [] k e = absurd (omega arith)
last_is_other (c ∷ cs) zero e = grind (arith, nat_tests)
last_is_other (c ∷ cs) (suc k) e = grind (arith, nat_tests, last_is_other cs k)

-- and a separator follows the content
next_is_separator : (cs : List BidiClass) (k : ℕ) → content_len cs ≡ k → k < length cs → is_paragraph_separator (get_or cs k L) ≡ true
next_is_separator [] k e within = absurd (omega arith)
next_is_separator (c ∷ cs) zero e within = grind (arith, nat_tests)
next_is_separator (c ∷ cs) (suc k) e within = grind (arith, nat_tests, next_is_separator cs k)

-- ---- the loop from the end

-- a step back over a separator
pub content_len-back : (cs : List BidiClass) (n k : ℕ) (d : BidiClass) → n ≡ k + 1 → k < length cs → is_paragraph_separator (get_or cs k d) ≡ true
    → content_len (take n cs) ≡ content_len (take k cs)
content_len-back cs n k d next within e =
    ap content_len (ap (λ (m : ℕ). take m cs) next ∙ take_more cs k d within) ∙ content_len-separator (take k cs) (get_or cs k d) e

-- the loop ends after a class that is no separator
pub content_len-last : (cs : List BidiClass) (n k : ℕ) (d : BidiClass) → n ≡ k + 1 → k < length cs → is_paragraph_separator (get_or cs k d) ≡ false
    → n ≡ content_len (take n cs)
content_len-last cs n k d next within e =
    let found = ap content_len (ap (λ (m : ℕ). take m cs) next ∙ take_more cs k d within) ∙ content_len-other (take k cs) (get_or cs k d) e in
    omega (arith, found, length-take k cs)

-- or at the start
pub content_len-none : (cs : List BidiClass) (n : ℕ) → n ≤ 0 → n ≡ content_len (take n cs)
content_len-none cs zero none = refl
content_len-none cs (suc n) none = absurd (omega arith)

-- ---- the end of the content cuts no character

module _ (len_of : ℕ → ℕ) (some : HasUnits len_of) (text : List ℕ) (classes : List BidiClass) (have : HaveClass len_of text classes) where
  pub length-classes : length classes ≡ text_len len_of text
  length-classes = length-from_IsPerChar len_of text classes (classes_IsPerChar len_of some text classes have)

  -- two code units of one character have the same class
  same_inside : (values : List BidiClass) → length values ≡ length text → classes ≡ per_unit len_of text values
      → (u k j : ℕ) → suc u ≡ unit_index len_of text k + suc j → k < length text → suc j < len_of (get_or text k 0)
      → get_or classes u L ≡ get_or classes (suc u) L
  same_inside values long is u k j at within below =
      let first : get_or classes u L ≡ get_or values k L =
      ap (λ (cs : List BidiClass). get_or cs u L) is ∙ ap (λ (i : ℕ). get_or (per_unit len_of text values) i L) (let e : u ≡ unit_index len_of text k + j = omega arith in e)
      ∙ get_or-per_unit len_of text values k j 0 L long within (omega arith) in
      let second : get_or classes (suc u) L ≡ get_or values k L =
      ap (λ (cs : List BidiClass). get_or cs (suc u) L) is ∙ ap (λ (i : ℕ). get_or (per_unit len_of text values) i L) at
      ∙ get_or-per_unit len_of text values k (suc j) 0 L long within below in
      first ∙ sym second

  -- so a character begins between two code units of different classes
  boundary-between : (u : ℕ) → suc u < text_len len_of text → is_paragraph_separator (get_or classes u L) ≡ false → is_paragraph_separator (get_or classes (suc u) L) ≡ true
      → is_boundary len_of text (suc u) ≡ true
  boundary-between u within other separator =
      let values = classes_IsPerChar len_of some text classes have in
      let w = unit_of len_of text (suc u) within in
      elim (cases_lt 0 w.offset) [
        | inl inside ↦ absurd (cc (ap is_paragraph_separator (same_inside values.0 values.1 values.2 u w.index (w.offset - 1) (omega (arith, w.at_place)) w.within (omega (arith, w.below))), other, separator))
        | inr first ↦ ap (is_boundary len_of text) (let e : suc u ≡ unit_index len_of text w.index = omega (arith, w.at_place) in e) ∙ is_boundary-unit_index len_of text w.index
      ]

  module _ (start end : ℕ) (is_line : IsLine len_of text start end) where
    abbrev len : ℕ
    len = content_len (slice_range classes start end)

    pub end-within : end ≤ length classes
    end-within = omega (arith, is_boundary-le len_of text end is_line.ends, length-classes)

    pub content-within : start + len ≤ end
    content-within = omega (arith, content_len-le (slice_range classes start end), length-part classes start end end-within, is_line.ordered)

    -- the classes of the range
    read : (k : ℕ) → k < end - start → get_or (slice_range classes start end) k L ≡ get_or classes (start + k) L
    read k inside = grind (arith, get_or-take, get_or-drop)

    -- inside the range, a separator follows another class there
    boundary-inside : (k : ℕ) → len ≡ suc k → start + suc k < end → is_boundary len_of text (start + suc k) ≡ true
    boundary-inside k e inside =
        let part = slice_range classes start end in
        let long = length-part classes start end end-within in
        let other : is_paragraph_separator (get_or classes (start + k) L) ≡ false =
        ap is_paragraph_separator (sym (read k (omega arith))) ∙ last_is_other part k e in
        let place : start + suc k ≡ suc (start + k) = omega arith in
        let separator : is_paragraph_separator (get_or classes (suc (start + k)) L) ≡ true =
        ap (λ (i : ℕ). is_paragraph_separator (get_or classes i L)) (sym place) ∙ ap is_paragraph_separator (sym (read (suc k) (omega arith))) ∙ next_is_separator part (suc k) e (omega (arith, long)) in
        ap (is_boundary len_of text) place ∙ boundary-between (start + k) (omega (arith, is_boundary-le len_of text end is_line.ends)) other separator

    boundary-at : (k : ℕ) → len ≡ k → start + k ≤ end → is_boundary len_of text (start + k) ≡ true
    boundary-at zero e within = ap (is_boundary len_of text) (let same : start + 0 ≡ start = omega arith in same) ∙ is_line.begins
    boundary-at (suc k) e within = elim (cases_lt (start + suc k) end) [
      | inl inside ↦ boundary-inside k e inside
      | inr past ↦ ap (is_boundary len_of text) (let same : start + suc k ≡ end = omega arith in same) ∙ is_line.ends
    ]

    content-boundary : is_boundary len_of text (start + len) ≡ true
    content-boundary = boundary-at len refl content-within

    -- so the content is a line, and so are its separators
    pub content-IsLine : IsLine len_of text start (start + len)
    content-IsLine = record { ordered = omega arith; begins = is_line.begins; ends = content-boundary }

    pub separators-IsLine : IsLine len_of text (start + len) end
    separators-IsLine = record { ordered = content-within; begins = content-boundary; ends = is_line.ends }
