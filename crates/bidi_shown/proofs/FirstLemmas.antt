-- The first paragraph of a text, and those after it.
use Rattle.bidi_base.proofs.Common.{take-add, IsUtf8-drop, IsUtf8-take, chars_past_char, ◌+◌, ◌≢◌, take, drop, if◌then◌else◌, encode_utf8, chars, IsUtf8, IsCharBoundary, length-encode, drop-drop}
use Rattle.bidi_base.proofs.Common.{drop-append_seam, take-append_seam, append_assoc, begins_with_line_feed, eqb-true, nat_tests, ◌==◌, ◌≡◌, ℕ, ◌<◌, true, false, not, List, [], ◌∷◌, ◌++◌, length}
use Rattle.bidi_base.proofs.Common.{refl, sym, ap, ◌∙◌, arith, cases_Bool, inl, inr, Source, cr_lf_together, is_paragraph_separator, and_parts, cond, take_while-cons}
use Rattle.std.proofs.lemmas.Str.{IsCharBoundary-past_char}
use Rattle.bidi_text.proofs.StrLemmas.{chars-push}
use Rattle.bidi_base.specs.Paragraphs.{own_chars, paragraphs_in}
use Rattle.bidi_shown.specs.Displayed.{after_first, shown_paragraph, shown_text}
use Rattle.bidi_shown.specs.declared.view.View.{View}

-- the first paragraph, which has the same own characters as the text
record Cuts (source : Source) (chars : List ℕ) : Type 0 where
  first : List ℕ
  cut : paragraphs_in source chars ≡ first ∷ paragraphs_in source (after_first source chars)
  own : own_chars source first ≡ own_chars source chars

own-more : (source : Source) (c : ℕ) (xs ys : List ℕ) → own_chars source xs ≡ own_chars source ys → own_chars source (c ∷ xs) ≡ own_chars source (c ∷ ys)
own-more source c xs ys same =
    take_while-cons (λ x. not (is_paragraph_separator (source.class_of x))) c xs
    ∙ ap (λ l. cond (not (is_paragraph_separator (source.class_of c))) (c ∷ l) []) same
    ∙ sym (take_while-cons (λ x. not (is_paragraph_separator (source.class_of x))) c ys)

-- a text that begins with a separator has none
pub own-ended : (source : Source) (c : ℕ) (cs : List ℕ) → is_paragraph_separator (source.class_of c) ≡ true → own_chars source (c ∷ cs) ≡ []
own-ended source c cs separator = take_while-cons (λ x. not (is_paragraph_separator (source.class_of x))) c cs ∙ simp separator

-- a separator is alone
cuts-ends : (source : Source) (c : ℕ) (cs : List ℕ) → cr_lf_together source c cs ≡ true → Cuts source (c ∷ cs)
cuts-ends source c cs ends =
    let separator : is_paragraph_separator (source.class_of c) ≡ true = (and_parts _ _ ends).0 in
    record { first = c ∷ []; cut = simp ends; own = own-ended source c [] separator ∙ sym (own-ended source c cs separator) }

cuts-more : (source : Source) (c : ℕ) (cs : List ℕ) → cr_lf_together source c cs ≡ false → Cuts source cs → Cuts source (c ∷ cs)
cuts-more source c cs goes_on rest = record { first = c ∷ rest.first; cut = simp (goes_on, rest.cut); own = own-more source c rest.first cs rest.own }

cuts : (source : Source) (chars : List ℕ) → 0 < length chars → Cuts source chars
cuts source [] some = absurd (omega arith)
cuts source (c ∷ []) some = elim (cases_Bool (cr_lf_together source c [])) [
  | inl ends ↦ cuts-ends source c [] ends
  | inr goes_on ↦ record { first = c ∷ []; cut = simp goes_on; own = refl }
]
cuts source (c ∷ d ∷ cs) some = elim (cases_Bool (cr_lf_together source c (d ∷ cs))) [
  | inl ends ↦ cuts-ends source c (d ∷ cs) ends
  | inr goes_on ↦ cuts-more source c (d ∷ cs) goes_on (cuts source (d ∷ cs) (omega arith))
]

pub shown_text-first : (source : Source) (view : View) (chars : List ℕ) → 0 < length chars
    → shown_text source view chars ≡ shown_paragraph source view (own_chars source chars) ++ shown_text source view (after_first source chars)
unfolding shown_text
shown_text-first source view chars some =
    let c = cuts source chars some in
    simp (c.cut, c.own)

-- ---- the text after the separator with which it begins

is_ended : (source : Source) (c : ℕ) (cs : List ℕ) → own_chars source (c ∷ cs) ≡ [] → is_paragraph_separator (source.class_of c) ≡ true
is_ended source c cs none = elim (cases_Bool (is_paragraph_separator (source.class_of c))) [
  | inl separator ↦ separator
  | inr other ↦
      let more : c ∷ own_chars source cs ≡ own_chars source (c ∷ cs) = sym (take_while-cons (λ x. not (is_paragraph_separator (source.class_of x))) c cs ∙ simp other) in
      cc (more, none)
]

pub after-other : (source : Source) (c : ℕ) (cs : List ℕ) → own_chars source (c ∷ cs) ≡ [] → c ≢ 0x0D → after_first source (c ∷ cs) ≡ cs
after-other source c cs none other =
    let separator : is_paragraph_separator (source.class_of c) ≡ true = is_ended source c cs none in
    grind (arith, nat_tests, separator)

pub after-return : (source : Source) (cs : List ℕ) → own_chars source (0x0D ∷ cs) ≡ [] → after_first source (0x0D ∷ cs) ≡ (if begins_with_line_feed source cs then drop 1 cs else cs)
after-return source [] none = simp (is_ended source 0x0D [] none)
after-return source (d ∷ cs) none = elim (cases_Bool (begins_with_line_feed source (d ∷ cs))) [
  | inl feed ↦
      let is : d ≡ 0x0A = eqb-true _ _ (and_parts _ _ feed).0 in
      let separator : is_paragraph_separator (source.class_of d) ≡ true = (and_parts (d == 0x0A) (is_paragraph_separator (source.class_of d)) feed).1 in
      grind (arith, nat_tests, is_ended source 0x0D (d ∷ cs) none, feed, is, separator)
  | inr other ↦ simp (is_ended source 0x0D (d ∷ cs) none, other)
]

-- ---- a text read up to a character

module _ (source : Source) (text : List ℕ) (utf8 : IsUtf8 text) (at c : ℕ) (rest : List ℕ) (boundary : IsCharBoundary text at) (here : drop at text ≡ encode_utf8 c ++ rest) where
  pub past-boundary : IsCharBoundary text (at + length (encode_utf8 c))
  past-boundary = rw length-encode (IsCharBoundary-past_char text rest at c boundary.0 (IsUtf8-drop text at utf8 boundary) here)

  pub past-rest : rest ≡ drop (at + length (encode_utf8 c)) text
  past-rest = sym (sym (drop-drop (length (encode_utf8 c)) at text) ∙ ap (drop (length (encode_utf8 c))) here ∙ drop-append_seam (encode_utf8 c) rest)

  pub from-chars : chars (drop at text) ≡ c ∷ chars rest
  from-chars = chars_past_char (drop at text) rest c (IsUtf8-drop text at utf8 boundary) here

  past-front : chars (take (at + length (encode_utf8 c)) text) ≡ chars (take at text) ++ c ∷ []
  past-front =
      chars-push (take (at + length (encode_utf8 c)) text) (take at text) c (IsUtf8-take text (at + length (encode_utf8 c)) utf8 past-boundary) (IsUtf8-take text at utf8 boundary)
      (take-add at (length (encode_utf8 c)) text ∙ ap (λ l. take at text ++ take (length (encode_utf8 c)) l) here ∙ ap (λ l. take at text ++ l) (take-append_seam (encode_utf8 c) rest))

  module _ (other : is_paragraph_separator (source.class_of c) ≡ false) where
    own-here : own_chars source (c ∷ chars rest) ≡ c ∷ own_chars source (chars rest)
    own-here = take_while-cons (λ x. not (is_paragraph_separator (source.class_of x))) c (chars rest) ∙ simp other

    pub past-own : chars (take at text) ++ own_chars source (chars (drop at text)) ≡ own_chars source (chars text)
        → chars (take (at + length (encode_utf8 c)) text) ++ own_chars source (chars (drop (at + length (encode_utf8 c)) text)) ≡ own_chars source (chars text)
    past-own before = simp (past-front, ← past-rest, append_assoc) (ap (λ l. chars (take at text) ++ l) (sym own-here) ∙ ap (λ l. chars (take at text) ++ own_chars source l) (sym from-chars) ∙ before)

    pub past-after : after_first source (chars (drop at text)) ≡ after_first source (chars text)
        → after_first source (chars (drop (at + length (encode_utf8 c)) text)) ≡ after_first source (chars text)
    past-after before = simp (← past-rest) (sym (simp (from-chars, other)) ∙ before)
