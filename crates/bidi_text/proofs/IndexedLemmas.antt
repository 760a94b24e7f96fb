-- A text that is read by index: at the start, one character further, and at the end.
use Rattle.bidi_base.proofs.Common.{◌≡◌, ℕ, ◌+◌, ◌<◌, ◌≤◌, ◌^◌, true, [], ◌∷◌, length, drop, get_or, Option, Some, None, unwrap_or, inl, inr, sym, ap, ap₂, ◌∙◌}
use Rattle.bidi_base.proofs.Common.{arith, add-one, char_indices_from, indices_lengths_from, cases_lt, drop-cons, drop_all}
use Rattle.bidi_base.proofs.TextLemmas.{char_at-end}
use Rattle.bidi_base.proofs.TextUnitIndexes.{unit_index-zero, unit_index-more, unit_index-more-le, unit_index-end, is_boundary-unit_index, char_index-unit_index, unit_index-char_index, char_at-unit_index}
use Rattle.bidi_base.specs.Texts.{Encoding, Text, text_len, unit_index, char_at, char_index, is_boundary}
use Rattle.bidi_text.specs.IndexedText.{CanReadOn, IsReadAt, chars_from}

-- the character c begins at index u and is `len` code units long
pub record IsCharAt {e : Encoding} (text : Text e) (u c len : ℕ) : Type 0 where
  pub long : len ≡ e.len_of c
  pub next : chars_from text u ≡ c ∷ chars_from text (u + len)
  pub on : CanReadOn text (u + len)
  pub fits : u + len < 2 ^ 64

module _ {e : Encoding} (text : Text e) where
  char_index-within : (u c len : ℕ) → is_boundary text u ≡ true → Some (c, len) ≡ char_at text u → char_index text u < length text.chars
  char_index-within u c len at read = elim (cases_lt (char_index text u) (length text.chars)) [
    | inl lt ↦ lt
    | inr past ↦
        let end : text_len text ≤ u = omega (arith, unit_index-end text (char_index text u) past, unit_index-char_index text u at) in
        absurd (cc (read, char_at-end e.len_of e.positive text.chars u end))
  ]

  pub is_char_at : (u c len : ℕ) → CanReadOn text u → Some (c, len) ≡ char_at text u → IsCharAt text u c len
  is_char_at u c len can read =
      let k = char_index text u in
      let d = get_or text.chars k 0 in
      let within = char_index-within u c len can.begins read in
      let here = unit_index-char_index text u can.begins in
      let found = read ∙ ap (char_at text) (sym here) ∙ char_at-unit_index text k 0 within in
      let is_char : c ≡ d = ap (λ (o : Option (ℕ × ℕ)). (unwrap_or o (c, len)).0) found in
      let is_len : len ≡ e.len_of d = ap (λ (o : Option (ℕ × ℕ)). (unwrap_or o (c, len)).1) found in
      let after : u + len ≡ unit_index text (k + 1) = omega (arith, here, is_len, unit_index-more text k 0 within) in
      let index : char_index text (u + len) ≡ k + 1 = ap (char_index text) after ∙ char_index-unit_index text (k + 1) (omega (arith, within)) in
      let next : drop k text.chars ≡ c ∷ drop (k + 1) text.chars = rw (add-one, is_char) (drop-cons text.chars k 0 within) in
      record {
        long = is_len ∙ ap e.len_of (sym is_char);
        next = next ∙ ap (λ m. c ∷ drop m text.chars) (sym index);
        on = record { begins = ap (is_boundary text) after ∙ is_boundary-unit_index text (k + 1); fits = can.fits };
        fits = omega (arith, here, is_len, unit_index-more-le text k 0 within, can.fits);
      }

  -- where no character begins, all characters were read
  pub chars_from-end : (u : ℕ) → CanReadOn text u → None ≡ char_at text u → chars_from text u ≡ []
  chars_from-end u can read = elim (cases_lt (char_index text u) (length text.chars)) [
    | inl lt ↦ absurd (cc (read, ap (char_at text) (sym (unit_index-char_index text u can.begins)), char_at-unit_index text (char_index text u) 0 lt))
    | inr past ↦ drop_all (char_index text u) text.chars past
  ]

  pub CanReadOn-start : text_len text < 2 ^ 64 → CanReadOn text 0
  CanReadOn-start fits = record { begins = ap (is_boundary text) (sym (unit_index-zero text)) ∙ is_boundary-unit_index text 0; fits = fits }

  pub chars_from-start : chars_from text 0 ≡ text.chars
  chars_from-start =
      let first : char_index text 0 ≡ 0 = ap (char_index text) (sym (unit_index-zero text)) ∙ char_index-unit_index text 0 (omega arith) in
      ap (λ k. drop k text.chars) first

-- ---- an iterator at index u of the text s reads, and then is at index v of the text t

module _ {e : Encoding} (s t : Text e) (u v : ℕ) (can : CanReadOn s u) (same : t ≡ s) where
  pub nothing_read : IsReadAt s u None v → (chars_from s u ≡ []) × (chars_from t v ≡ [])
  nothing_read read =
      let none = chars_from-end s u can read.0 in
      (none, ap (λ x. chars_from x v) same ∙ ap (chars_from s) read.1 ∙ none)

  pub char_read : (at c len : ℕ) → IsReadAt s u (Some (at, c, len)) v → chars_from s u ≡ c ∷ chars_from t v
  char_read at c len read = rw (same, read.2) (is_char_at s u c len can read.1).next

  length_read : (at c len : ℕ) → IsReadAt s u (Some (at, c, len)) v → (len ≡ e.len_of c) × (u + e.len_of c ≡ v)
  length_read at c len read =
      let long = (is_char_at s u c len can read.1).long in
      (long, ap (λ n. u + n) (sym long) ∙ sym read.2)

  pub char_index_read : (at c len : ℕ) → IsReadAt s u (Some (at, c, len)) v
      → char_indices_from e.len_of u (chars_from s u) ≡ (at, c) ∷ char_indices_from e.len_of v (chars_from t v)
  char_index_read at c len read =
      let w = length_read at c len read in
      ap (char_indices_from e.len_of u) (char_read at c len read) ∙ ap (λ n. (u, c) ∷ char_indices_from e.len_of n (chars_from t v)) w.1
      ∙ ap (λ n. (n, c) ∷ char_indices_from e.len_of v (chars_from t v)) (sym read.0)

  pub index_length_read : (at c len : ℕ) → IsReadAt s u (Some (at, c, len)) v
      → indices_lengths_from e.len_of u (chars_from s u) ≡ (at, len) ∷ indices_lengths_from e.len_of v (chars_from t v)
  index_length_read at c len read =
      let w = length_read at c len read in
      ap (indices_lengths_from e.len_of u) (char_read at c len read) ∙ ap (λ n. (u, e.len_of c) ∷ indices_lengths_from e.len_of n (chars_from t v)) w.1
      ∙ ap (λ p. p ∷ indices_lengths_from e.len_of v (chars_from t v)) (ap₂ (λ n m. (n, m)) (sym read.0) (sym w.0))
