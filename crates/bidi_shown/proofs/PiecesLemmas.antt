-- What is shown does not depend on the pieces in which a text comes.
use Rattle.bidi_base.proofs.Common.{◌≡◌, ◌≢◌, ◌∙◌, ℕ, suc, if◌then◌else◌, length-take, take_more, ◌+◌, ◌-◌, ◌<◌, ◌≤◌, ◌++◌, ◌==◌, nat_lt, true, false, List, [], ◌∷◌, length, take, drop, get_or}
use Rattle.bidi_base.proofs.Common.{flat_map, refl, sym, ap, subst, arith, nat_tests, eqb-true, cases_Bool, inl, inr, append_assoc, append-nil, take-append-drop, take-append_seam}
use Rattle.bidi_base.proofs.Common.{drop-append_seam, flat_map-append, length-append, get_or-append_seam, chars, chars-nil, encode_utf8, IsUtf8, IsUtf8-past_char, IsCharBoundary, Source}
use Rattle.bidi_base.proofs.Common.{is_paragraph_separator, cr_lf_together, onto_first, chars-append, chars_past_char, encode_ascii, IsCharBoundary-before_ascii, IsUtf8-append, IsUtf8-drop}
use Rattle.bidi_base.proofs.Common.{IsCharBoundary-after_ascii, IsUtf8-take}
use Rattle.bidi_unicode.specs.Unicode.{unicode_source}
use Rattle.bidi_base.specs.Paragraphs.{own_chars, paragraphs_in}
use Rattle.bidi_shown.specs.Displayed.{shown_paragraph, shown_text}
use Rattle.bidi_shown.specs.declared.view.View.{View}
use Rattle.bidi_shown.proofs.PrintableLemmas.{feed-separates}
use Rattle.bidi_shown.specs.Streams.{whole_lines, shown_bytes, shown_now, pending_after, IsShownTo}

-- ---- the paragraphs of a text that has a line feed

onto-append : (c : ℕ) (xs ys : List (List ℕ)) → 0 < length xs → onto_first c (xs ++ ys) ≡ onto_first c xs ++ ys
onto-append c [] ys some = absurd (omega arith)
onto-append c (x ∷ xs) ys some = refl

onto-some : (c : ℕ) (xs : List (List ℕ)) → 0 < length (onto_first c xs)
onto-some c [] = omega arith
onto-some c (x ∷ xs) = omega arith

cut-some : (source : Source) (c : ℕ) (cs : List ℕ) → 0 < length (paragraphs_in source (c ∷ cs))
cut-some source c cs = elim (cases_Bool (cr_lf_together source c cs)) [
  | inl ends ↦ simp ends (omega arith)
  | inr goes_on ↦ simp goes_on (onto-some c (paragraphs_in source cs))
]

some-before : (source : Source) (cs : List ℕ) → 0 < length (paragraphs_in source (cs ++ 0x0A ∷ []))
some-before source [] = cut-some source 0x0A []
some-before source (c ∷ cs) = cut-some source c (cs ++ 0x0A ∷ [])

same-ends : (source : Source) (c : ℕ) (cs ds : List ℕ) → cr_lf_together source c (cs ++ 0x0A ∷ ds) ≡ cr_lf_together source c (cs ++ 0x0A ∷ [])
same-ends source c [] ds = refl
same-ends source c (d ∷ cs) ds = refl

paragraphs-append : (source : Source) → is_paragraph_separator (source.class_of 0x0A) ≡ true → (cs ds : List ℕ)
    → paragraphs_in source (cs ++ 0x0A ∷ ds) ≡ paragraphs_in source (cs ++ 0x0A ∷ []) ++ paragraphs_in source ds
paragraphs-append source feed [] ds = simp feed
paragraphs-append source feed (c ∷ cs) ds =
    let later = paragraphs-append source feed cs ds in
    elim (cases_Bool (cr_lf_together source c (cs ++ 0x0A ∷ []))) [
      | inl ends ↦
          let ends' : cr_lf_together source c (cs ++ 0x0A ∷ ds) ≡ true = same-ends source c cs ds ∙ ends in
          simp (ends, ends', later)
      | inr goes_on ↦
          let goes_on' : cr_lf_together source c (cs ++ 0x0A ∷ ds) ≡ false = same-ends source c cs ds ∙ goes_on in
          simp (goes_on, goes_on', later) (onto-append c (paragraphs_in source (cs ++ 0x0A ∷ [])) (paragraphs_in source ds) (some-before source cs))
    ]

pub shown_text-append : (view : View) (cs ds : List ℕ) → shown_text unicode_source view (cs ++ 0x0A ∷ ds) ≡ shown_text unicode_source view (cs ++ 0x0A ∷ []) ++ shown_text unicode_source view ds
unfolding shown_text
shown_text-append view cs ds =
    let shown = λ (p : List ℕ). shown_paragraph unicode_source view (own_chars unicode_source p) in
    ap (flat_map shown) (paragraphs-append unicode_source feed-separates cs ds) ∙ flat_map-append shown (paragraphs_in unicode_source (cs ++ 0x0A ∷ [])) (paragraphs_in unicode_source ds)

-- ---- the same for bytes

feed-chars : (rest : List ℕ) → IsUtf8 (0x0A ∷ rest) → (chars (0x0A ∷ rest) ≡ 0x0A ∷ chars rest) × IsUtf8 rest
feed-chars rest utf8 =
    let e : 0x0A ∷ rest ≡ encode_utf8 0x0A ++ rest = ap (λ l. l ++ rest) (sym (encode_ascii 0x0A (omega arith))) in
    (chars_past_char (0x0A ∷ rest) rest 0x0A utf8 e, IsUtf8-past_char (0x0A ∷ rest) rest 0x0A utf8 e)

-- before a line feed
at-feed : (front rest : List ℕ) → IsUtf8 (front ++ 0x0A ∷ rest) → IsUtf8 front × IsUtf8 (0x0A ∷ rest)
at-feed front rest utf8 =
    let bs : List ℕ = front ++ 0x0A ∷ rest in
    let within : length front < length bs = omega (arith, length-append front (0x0A ∷ rest)) in
    let byte : get_or bs (length front) 0 ≡ 0x0A = get_or-append_seam front 0x0A rest 0 in
    let boundary : IsCharBoundary bs (length front) = IsCharBoundary-before_ascii bs (length front) within (omega (arith, byte)) in (
      subst IsUtf8 (take-append_seam front (0x0A ∷ rest)) (IsUtf8-take bs (length front) utf8 boundary),
      subst IsUtf8 (drop-append_seam front (0x0A ∷ rest)) (IsUtf8-drop bs (length front) utf8 boundary),
    )

chars-feed : (front rest : List ℕ) → IsUtf8 (front ++ 0x0A ∷ rest) → chars (front ++ 0x0A ∷ rest) ≡ chars front ++ 0x0A ∷ chars rest
chars-feed front rest utf8 =
    let parts = at-feed front rest utf8 in
    chars-append front (0x0A ∷ rest) parts.0 ∙ ap (λ l. chars front ++ l) (feed-chars rest parts.1).0

feed-utf8 : (rest : List ℕ) → IsUtf8 (0x0A ∷ rest) → IsUtf8 (0x0A ∷ [])
feed-utf8 rest utf8 = IsUtf8-take (0x0A ∷ rest) 1 utf8 (IsCharBoundary-after_ascii (0x0A ∷ rest) 0 utf8 (omega arith) (omega arith))

feed-alone : (front rest : List ℕ) → IsUtf8 (front ++ 0x0A ∷ rest) → chars (front ++ 0x0A ∷ []) ≡ chars front ++ 0x0A ∷ []
feed-alone front rest utf8 =
    let parts = at-feed front rest utf8 in
    let alone : chars (0x0A ∷ []) ≡ 0x0A ∷ [] = (feed-chars [] (feed-utf8 rest parts.1)).0 ∙ ap (λ l. 0x0A ∷ l) chars-nil in
    chars-append front (0x0A ∷ []) parts.0 ∙ ap (λ l. chars front ++ l) alone

pub shown_bytes-append : (view : View) (front rest : List ℕ) → IsUtf8 (front ++ 0x0A ∷ rest) → shown_bytes view (front ++ 0x0A ∷ rest) ≡ shown_bytes view (front ++ 0x0A ∷ []) ++ shown_bytes view rest
shown_bytes-append view front rest utf8 =
    simp (chars-feed front rest utf8, feed-alone front rest utf8) (shown_text-append view (chars front) (chars rest))

-- ---- pieces

-- the whole lines end with a line feed
record EndsLine (bs : List ℕ) : Type 0 where
  front : List ℕ
  is : take (whole_lines bs) bs ≡ front ++ 0x0A ∷ []

ends_line : (bs : List ℕ) → 0 < whole_lines bs → EndsLine bs
ends_line [] some = absurd (omega arith)
ends_line (b ∷ bs) some = elim (cases_Bool (nat_lt 0 (whole_lines bs))) [
  | inl later ↦
      let rest = ends_line bs (grind (arith, nat_tests, later)) in
      let next : whole_lines bs + 1 ≡ suc (whole_lines bs) = omega arith in
      record { front = b ∷ rest.front; is = simp (later, next, rest.is) }
  | inr none ↦ elim (cases_Bool (b == 0x0A)) [
    | inl here ↦ record { front = []; is = simp (none, here) (ap (λ x. x ∷ []) (eqb-true b 0x0A here)) }
    | inr other ↦ absurd (let no : whole_lines (b ∷ bs) ≡ 0 = simp (none, other) in omega arith)
  ]
]

-- One more piece came.
pub IsShownTo-more : (view : View) (held piece came shown : List ℕ) → (0 < whole_lines piece → IsUtf8 (held ++ take (whole_lines piece) piece))
    → IsShownTo view held came shown → IsShownTo view (pending_after held piece) (came ++ piece) (shown ++ shown_now view held piece)
IsShownTo-more view held piece came shown lines_utf8 was = elim (cases_Bool (whole_lines piece == 0)) [
  | inl none ↦ simp none (λ rest utf8.
      let same : held ++ (piece ++ rest) ≡ (held ++ piece) ++ rest = sym (append_assoc held piece rest) in
      let now = was (piece ++ rest) (subst IsUtf8 (sym same) utf8) in
      simp (append_assoc, append-nil) now)
  | inr some ↦
      let end = ends_line piece (grind (arith, nat_tests, some)) in
      let after : List ℕ = drop (whole_lines piece) piece in
      let front : List ℕ = held ++ end.front in
      let lines : held ++ take (whole_lines piece) piece ≡ front ++ 0x0A ∷ [] = ap (λ l. held ++ l) end.is ∙ sym (append_assoc held end.front (0x0A ∷ [])) in
      let lines_valid : IsUtf8 (front ++ 0x0A ∷ []) = subst IsUtf8 lines (lines_utf8 (grind (arith, nat_tests, some))) in
      let cut : piece ≡ (end.front ++ 0x0A ∷ []) ++ after = sym (take-append-drop (whole_lines piece) piece) ∙ ap (λ l. l ++ after) end.is in
      simp some (λ rest utf8.
      let whole : held ++ (piece ++ rest) ≡ front ++ 0x0A ∷ (after ++ rest) = ap (λ l. held ++ (l ++ rest)) cut ∙ simp append_assoc in
      let valid : IsUtf8 (front ++ 0x0A ∷ (after ++ rest)) = subst IsUtf8 (append_assoc front (0x0A ∷ []) (after ++ rest)) (IsUtf8-append (front ++ 0x0A ∷ []) (after ++ rest) lines_valid utf8) in
      let now = was (piece ++ rest) (subst IsUtf8 (sym whole) valid) in
      let all : came ++ (piece ++ rest) ≡ (came ++ piece) ++ rest = sym (append_assoc came piece rest) in
      let both : shown_bytes view (held ++ take (whole_lines piece) piece) ++ shown_bytes view (after ++ rest) ≡ shown_bytes view (held ++ (piece ++ rest)) =
      ap (λ l. shown_bytes view l ++ shown_bytes view (after ++ rest)) lines ∙ sym (shown_bytes-append view front (after ++ rest) valid) ∙ ap (shown_bytes view) (sym whole) in (
        subst IsUtf8 all now.0,
        append_assoc shown (shown_bytes view (held ++ take (whole_lines piece) piece)) (shown_bytes view (after ++ rest)) ∙ ap (λ l. shown ++ l) both ∙ now.1 ∙ ap (shown_bytes view) all,
      ))
]

-- The same, if what is shown follows something.
pub IsShownTo-pushed : (view : View) (held piece came before out out' held' : List ℕ) → (0 < whole_lines piece → IsUtf8 (held ++ take (whole_lines piece) piece))
    → out' ≡ out ++ shown_now view held piece → held' ≡ pending_after held piece → IsShownTo view held came (before ++ out) → IsShownTo view held' (came ++ piece) (before ++ out')
IsShownTo-pushed view held piece came before out out' held' lines_utf8 out_is held_is was =
    let now = IsShownTo-more view held piece came (before ++ out) lines_utf8 was in
    rw (held_is, out_is, sym (append_assoc before out (shown_now view held piece))) now

-- No more comes.
pub IsShownTo-end : (view : View) (held came shown : List ℕ) → IsUtf8 held → IsShownTo view held came shown → IsUtf8 came × (shown ++ shown_bytes view held ≡ shown_bytes view came)
IsShownTo-end view held came shown utf8 was =
    let now = was [] (subst IsUtf8 (sym (append-nil held)) utf8) in
    simp append-nil at now

-- ---- the whole lines, read from the end

whole_lines-push : (xs : List ℕ) (b : ℕ) → whole_lines (xs ++ b ∷ []) ≡ (if b == 0x0A then length xs + 1 else whole_lines xs)
whole_lines-push [] b = elim (cases_Bool (b == 0x0A)) [ inl here ↦ simp here (omega arith) | inr other ↦ simp other ]
whole_lines-push (x ∷ xs) b =
    let later = whole_lines-push xs b in
    elim (cases_Bool (b == 0x0A)) [
      | inl here ↦
          let all : whole_lines (xs ++ b ∷ []) ≡ length xs + 1 = simp here at later in
          let some : nat_lt 0 (length xs + 1) ≡ true = grind (arith, nat_tests) in
          simp (here, all, some) (omega arith)
      | inr other ↦
          let same : whole_lines (xs ++ b ∷ []) ≡ whole_lines xs = simp other at later in
          simp (other, same)
    ]

module _ (bs : List ℕ) (end : ℕ) (some : 0 < end) (within : end ≤ length bs) where
  last : take end bs ≡ take (end - 1) bs ++ get_or bs (end - 1) 0 ∷ []
  last =
      let next : end ≡ (end - 1) + 1 = omega arith in
      ap (λ n. take n bs) next ∙ take_more bs (end - 1) 0 (omega arith)

  front_len : length (take (end - 1) bs) + 1 ≡ end
  front_len = omega (arith, length-take (end - 1) bs)

  pub whole-at : get_or bs (end - 1) 0 ≡ 0x0A → whole_lines (take end bs) ≡ end
  whole-at here =
      let feed : (get_or bs (end - 1) 0 == 0x0A) ≡ true = grind (arith, nat_tests) in
      ap whole_lines last ∙ whole_lines-push (take (end - 1) bs) (get_or bs (end - 1) 0) ∙ simp feed front_len

  pub whole-before : get_or bs (end - 1) 0 ≢ 0x0A → whole_lines (take end bs) ≡ whole_lines (take (end - 1) bs)
  whole-before other =
      let none : (get_or bs (end - 1) 0 == 0x0A) ≡ false = grind (arith, nat_tests) in
      ap whole_lines last ∙ whole_lines-push (take (end - 1) bs) (get_or bs (end - 1) 0) ∙ simp none
