-- A text of UTF-8 as a list of characters: `chars bs`, with `len_utf8` for the lengths.
use Rattle.bidi_base.proofs.Common.{◌≡◌, ℕ, ◌+◌, ◌-◌, ◌≤◌, true, List, [], ◌∷◌, ◌++◌, length, take, drop, Option, Some, None, option_map, slice_get, refl, sym, ◌∙◌, ap, arith, subst, append-nil}
use Rattle.bidi_base.proofs.Common.{length-append, length-take, length-drop, get_or, get_or-drop, get_or-take, ◌<◌, ◌*◌, ◌%◌, nat_lt, ◌/◌, inl, inr, cases_lt, if◌then◌else◌, common_steps}
use Rattle.bidi_base.proofs.Common.{slice_range, take-append_seam, drop-append_seam, len_utf8, chars, IsUtf8, IsCharBoundary, encode_utf8_all, char_indices_steps, char_indices_rest}
use Rattle.bidi_base.proofs.Common.{char_indices_offset, CharIndices, take-append-drop, sum_by-cons, encodes-chars, encodes-append, length-encode, chars-nil, IsUtf8-past_char, and_parts}
use Rattle.bidi_base.proofs.Common.{nat_tests, YieldsList, text_len, char_indices, char_indices_from, indices_lengths_from, char_at, ascii_of, ascii_at, is_boundary, subrange, IsLine, all_scalars}
use Rattle.bidi_base.proofs.Common.{chars-append, scalars-chars, len_utf8_bounds, chars_past_char, IsUtf8-take, IsUtf8-drop, IsCharBoundary-before_ascii, IsCharBoundary-from_take, byte_from_char}
use Rattle.std.specs.Char.{encode_utf8, is_ascii}
use lib.Utf8.{encode, scalar, scalar_cases}
use Rattle.std.specs.Iterator.{AlwaysYields}
use Rattle.std.proofs.lemmas.Str.{IsCharBoundary-at_seam, char_from_byte}
use Rattle.std.proofs.lemmas.Iterator.Splits.{YieldsList-from_shown_while}
use Rattle.bidi_base.proofs.TextLemmas.{HasUnits, cut_at, char_at-append, is_boundary-append, subrange-middle, char_at-None, char_at-end, char_at-zero}

pub has_units : HasUnits len_utf8
has_units c = (len_utf8_bounds c).0

-- the lengths of the characters are those of their bytes
pub text_len-encodes : (cs : List ℕ) → text_len len_utf8 cs ≡ length (encode_utf8_all cs)
text_len-encodes [] = refl
text_len-encodes (c ∷ cs) = omega (arith, sum_by-cons len_utf8 c cs, text_len-encodes cs, length-append (encode_utf8 c) (encode_utf8_all cs), length-encode c)

pub text_len-chars : (bs : List ℕ) → IsUtf8 bs → text_len len_utf8 (chars bs) ≡ length bs
text_len-chars bs u = text_len-encodes (chars bs) ∙ ap length (encodes-chars bs u)

-- one more character
pub chars-push : (text front : List ℕ) (c : ℕ) → IsUtf8 text → IsUtf8 front → text ≡ front ++ encode_utf8 c → chars text ≡ chars front ++ c ∷ []
chars-push text front c u v e =
    let back : drop (length front) text ≡ encode_utf8 c = ap (drop (length front)) e ∙ drop-append_seam front (encode_utf8 c) in
    let w : IsUtf8 (encode_utf8 c) = subst IsUtf8 back (IsUtf8-drop text (length front) u (IsCharBoundary-from_take text (length front) u (omega (arith, ap length e, length-append front (encode_utf8 c))) (subst IsUtf8 (sym (ap (take (length front)) e ∙ take-append_seam front (encode_utf8 c))) v))) in
    ap chars e ∙ chars-append front (encode_utf8 c) v ∙ ap (λ l. chars front ++ l) (chars_past_char (encode_utf8 c) [] c w (sym (append-nil (encode_utf8 c))) ∙ ap (λ l. c ∷ l) chars-nil)

-- a text that is cut at a boundary is cut between two characters
chars_cut : (bs : List ℕ) (i : ℕ) → IsUtf8 bs → IsCharBoundary bs i → chars bs ≡ chars (take i bs) ++ chars (drop i bs)
chars_cut bs i u b = ap chars (sym (take-append-drop i bs)) ∙ chars-append (take i bs) (drop i bs) (IsUtf8-take bs i u b)

text_len-front : (bs : List ℕ) (i : ℕ) → IsUtf8 bs → IsCharBoundary bs i → text_len len_utf8 (chars (take i bs)) ≡ i
text_len-front bs i u b = omega (arith, text_len-chars (take i bs) (IsUtf8-take bs i u b), length-take i bs, b.0)

scalars_back : (xs ys : List ℕ) → all_scalars (xs ++ ys) ≡ true → all_scalars ys ≡ true
scalars_back [] ys e = e
scalars_back (x ∷ xs) ys e = scalars_back xs ys (and_parts _ _ e).1

pub IsCharBoundary-from_is_boundary : (bs : List ℕ) (i : ℕ) → IsUtf8 bs → is_boundary len_utf8 (chars bs) i ≡ true → IsCharBoundary bs i
IsCharBoundary-from_is_boundary bs i u e =
    let w = cut_at len_utf8 (chars bs) i e in
    let joined : bs ≡ encode_utf8_all w.front ++ encode_utf8_all w.back = sym (encodes-chars bs u) ∙ ap encode_utf8_all w.joined ∙ encodes-append w.front w.back in
    let back : IsUtf8 (encode_utf8_all w.back) = (w.back, (scalars_back w.front w.back (sym (ap all_scalars w.joined) ∙ scalars-chars bs u), refl)) in
    subst (λ n. IsCharBoundary bs n) (sym (text_len-encodes w.front) ∙ w.long) (IsCharBoundary-at_seam bs (encode_utf8_all w.front) (encode_utf8_all w.back) joined back)

-- what is at a boundary begins what follows it
pub char_at-from_str : (bs : List ℕ) (i : ℕ) → IsUtf8 bs → IsCharBoundary bs i → char_at len_utf8 (chars bs) i ≡ char_at len_utf8 (chars (drop i bs)) 0
char_at-from_str bs i u b = cc (chars_cut bs i u b, text_len-front bs i u b, char_at-append len_utf8 has_units (chars (take i bs)) (chars (drop i bs)))

-- a character begins at a boundary of the bytes, or the text ends there
pub is_boundary-from_str : (bs : List ℕ) (i : ℕ) → IsUtf8 bs → IsCharBoundary bs i → is_boundary len_utf8 (chars bs) i ≡ true
is_boundary-from_str bs i u b = cc (chars_cut bs i u b, text_len-front bs i u b, is_boundary-append len_utf8 (chars (take i bs)) (chars (drop i bs)))

-- three parts of a text, cut at the ends of a line
three : (bs : List ℕ) (start end : ℕ) → start ≤ end → bs ≡ take start bs ++ (slice_range bs start end ++ drop (end - start) (drop start bs))
three bs start end le = grind (arith, take-append-drop)

-- the characters of a line are those of its bytes
pub subrange-from_str : (bs : List ℕ) (start end : ℕ) → IsUtf8 bs → IsLine len_utf8 (chars bs) start end
    → IsUtf8 (slice_range bs start end) → subrange len_utf8 (chars bs) start end ≡ chars (slice_range bs start end)
subrange-from_str bs start end u line mid =
    let xs : List ℕ = take start bs in
    let ys : List ℕ = slice_range bs start end in
    let zs : List ℕ = drop (end - start) (drop start bs) in
    let begins = IsCharBoundary-from_is_boundary bs start u line.begins in
    let ends = IsCharBoundary-from_is_boundary bs end u line.ends in
    let front : text_len len_utf8 (chars xs) ≡ start = text_len-front bs start u begins in
    let middle : text_len len_utf8 (chars ys) ≡ end - start = omega (arith, text_len-chars ys mid, length-take (end - start) (drop start bs), length-drop start bs, ends.0, line.ordered) in
    let cs : chars bs ≡ chars xs ++ (chars ys ++ chars zs) =
    ap chars (three bs start end line.ordered) ∙ chars-append xs (ys ++ zs) (IsUtf8-take bs start u begins) ∙ ap (λ x. chars xs ++ x) (chars-append ys zs mid) in
    let sums : text_len len_utf8 (chars xs) + text_len len_utf8 (chars ys) ≡ end = omega (arith, front, middle, line.ordered) in
    cc (cs, front, sums, subrange-middle len_utf8 has_units (chars xs) (chars ys) (chars zs))

-- ---- what `char_indices` gives

abbrev left : CharIndices → List (ℕ × ℕ)
left s = char_indices_from len_utf8 (char_indices_offset s) (chars (char_indices_rest s))

pub YieldsList-from_char_indices : (s : CharIndices) → IsUtf8 (char_indices_rest s) → YieldsList char_indices_steps (λ p. p) s (left s)
YieldsList-from_char_indices s u =
    YieldsList-from_shown_while char_indices_steps (λ p. p) left (λ t. IsUtf8 (char_indices_rest t))
    (λ s t u h. grind (arith, common_steps, chars-nil, h.0))
    (λ s p t u h. (
      IsUtf8-past_char (char_indices_rest s) (char_indices_rest t) p.1 u h.1,
      grind (arith, h.0, h.2, chars_past_char, length-encode),
    ))
    s u

pub char_indices_gives : (s : CharIndices) (bs : List ℕ) → IsUtf8 bs → char_indices_rest s ≡ bs → char_indices_offset s ≡ 0
    → AlwaysYields char_indices_steps (λ p. p) s (char_indices len_utf8 (chars bs))
char_indices_gives s bs u e z = grind (arith, YieldsList-from_char_indices)

-- nothing stands inside a character
pub char_at-inside : (bs : List ℕ) (i : ℕ) → IsUtf8 bs → ¬ (IsCharBoundary bs i) → char_at len_utf8 (chars bs) i ≡ None
char_at-inside bs i u n = grind (arith, char_at-None len_utf8 has_units (chars bs) i, IsCharBoundary-from_is_boundary bs i u)

-- what the first character of the rest says
pub char_at-read : (bs rest : List ℕ) (i : ℕ) (o : Option ℕ) → IsUtf8 bs → IsCharBoundary bs i → rest ≡ drop i bs
    → o ≡ slice_get (chars rest) 0 → option_map (λ c. (c, len_utf8 c)) o ≡ char_at len_utf8 (chars bs) i
char_at-read bs rest i o u b e is = grind (arith, char_at-from_str, char_at-zero)

-- ---- a byte below 128 is a whole character, and no other byte begins one

abbrev pub ascii_byte : ℕ → Option ℕ
ascii_byte b = if is_ascii b then Some b else None

ascii_first : (bs cs : List ℕ) → encode_utf8_all cs ≡ bs → 0 < length bs → ascii_of (char_at len_utf8 cs 0) ≡ ascii_byte (get_or bs 0 0)
ascii_first bs [] e some = absurd (omega (arith, ap length e))
ascii_first bs (c ∷ cs) e some = grind (arith, byte_from_char, char_from_byte)

pub ascii_at-byte : (bs : List ℕ) (i : ℕ) → IsUtf8 bs → i < length bs → ascii_at len_utf8 (chars bs) i ≡ ascii_byte (get_or bs i 0)
ascii_at-byte bs i u within =
    grind (arith, IsCharBoundary-before_ascii, IsCharBoundary-from_is_boundary, char_at-None, nat_tests, char_at-from_str, ascii_first, encodes-chars, IsUtf8-drop, length-drop, get_or-drop)

pub ascii_at-past : (bs : List ℕ) (i : ℕ) → IsUtf8 bs → length bs ≤ i → ascii_at len_utf8 (chars bs) i ≡ None
ascii_at-past bs i u past = grind (arith, char_at-end, text_len-chars)

-- ---- sixteen bytes at once

-- a byte below 128 is a character
ascii_at-below : (bs : List ℕ) (i : ℕ) → IsUtf8 bs → i < length bs → get_or bs i 0 < 128 → Some (get_or bs i 0) ≡ ascii_at len_utf8 (chars bs) i
ascii_at-below bs i u within below = grind (arith, ascii_at-byte bs i u within)

-- and so are the bytes of a block
pub ascii_at-block : (bs : List ℕ) (i k : ℕ) → IsUtf8 bs → i + 16 ≤ length bs → k < 16 → get_or (take 16 (drop i bs)) k 0 < 128
    → Some (get_or (take 16 (drop i bs)) k 0) ≡ ascii_at len_utf8 (chars bs) (i + k)
ascii_at-block bs i k u room inside below =
    let here : get_or (take 16 (drop i bs)) k 0 ≡ get_or bs (i + k) 0 = get_or-take 16 (drop i bs) k 0 inside ∙ get_or-drop i bs k 0 in
    ap Some here ∙ ascii_at-below bs (i + k) u (omega (arith, room, inside)) (rw here at below)

-- ---- a character of one or two bytes is told by them

two_bytes : (c : ℕ) (rest : List ℕ) → 128 ≤ c → c < 2048 → encode_utf8 c ++ rest ≡ (192 + c / 64) ∷ (128 + c % 64) ∷ rest
unfolding encode
two_bytes c rest low high = grind (arith, nat_tests)

more_bytes : (c : ℕ) (rest : List ℕ) → 2048 ≤ c → 224 ≤ get_or (encode_utf8 c ++ rest) 0 0
unfolding encode
more_bytes c rest high = grind (arith, nat_tests)

short_first : (bs cs : List ℕ) → encode_utf8_all cs ≡ bs → 0 < length bs → get_or bs 0 0 < 224
    → char_at len_utf8 cs 0 ≡ (if nat_lt (get_or bs 0 0) 192 then Some (get_or bs 0 0, 1) else Some (get_or bs 0 0 % 32 * 64 + get_or bs 1 0 % 64, 2))
short_first bs [] e some low = absurd (omega (arith, ap length e))
short_first bs (c ∷ cs) e some low = elim (cases_lt c 128) [
  | inl one ↦ grind (arith, nat_tests, byte_from_char bs (encode_utf8_all cs) c (sym e) one)
  | inr more ↦ elim (cases_lt c 2048) [
    | inl two ↦ grind (arith, nat_tests, ap (λ l. get_or l 0 0) (two_bytes c (encode_utf8_all cs) more two), ap (λ l. get_or l 1 0) (two_bytes c (encode_utf8_all cs) more two))
    | inr long ↦ absurd (omega (arith, more_bytes c (encode_utf8_all cs) long, ap (λ l. get_or l 0 0) e))
  ]
]

pub char_at-short : (bs : List ℕ) (i : ℕ) → IsUtf8 bs → is_boundary len_utf8 (chars bs) i ≡ true → i < length bs → get_or bs i 0 < 224
    → char_at len_utf8 (chars bs) i ≡ (if nat_lt (get_or bs i 0) 192 then Some (get_or bs i 0, 1) else Some (get_or bs i 0 % 32 * 64 + get_or bs (i + 1) 0 % 64, 2))
char_at-short bs i u begins within low =
    let b = IsCharBoundary-from_is_boundary bs i u begins in
    let first : get_or (drop i bs) 0 0 ≡ get_or bs i 0 = grind (arith, get_or-drop) in
    let second : get_or (drop i bs) 1 0 ≡ get_or bs (i + 1) 0 = get_or-drop i bs 1 0 in
    let rest = IsUtf8-drop bs i u b in
    char_at-from_str bs i u b ∙ simp (first, second) at (short_first (drop i bs) (chars (drop i bs)) (encodes-chars (drop i bs) rest) (omega (arith, length-drop i bs)) (omega (arith, first)))

-- ---- a character of three bytes or four is told by them

abbrev pub code_of_three : ℕ → ℕ → ℕ → ℕ
code_of_three first second third = first % 16 * 4096 + second % 64 * 64 + third % 64

abbrev pub code_of_four : ℕ → ℕ → ℕ → ℕ → ℕ
code_of_four first second third fourth = first % 8 * 262144 + second % 64 * 4096 + third % 64 * 64 + fourth % 64

scalar_below : (c : ℕ) → scalar c ≡ true → c < 1114112
scalar_below c e = elim (scalar_cases c e) [
  | inl low ↦ omega (arith, low)
  | inr high ↦ high.1
]

fewer_bytes : (c : ℕ) (rest : List ℕ) → c < 2048 → get_or (encode_utf8 c ++ rest) 0 0 < 224
unfolding encode
fewer_bytes c rest low = grind (arith, nat_tests)

three_bytes : (c : ℕ) (rest : List ℕ) → 2048 ≤ c → c < 65536 → encode_utf8 c ++ rest ≡ (224 + c / 4096) ∷ (128 + c / 64 % 64) ∷ (128 + c % 64) ∷ rest
unfolding encode
three_bytes c rest low high = grind (arith, nat_tests)

four_bytes : (c : ℕ) (rest : List ℕ) → 65536 ≤ c → encode_utf8 c ++ rest ≡ (240 + c / 262144) ∷ (128 + c / 4096 % 64) ∷ (128 + c / 64 % 64) ∷ (128 + c % 64) ∷ rest
unfolding encode
four_bytes c rest high = grind (arith, nat_tests)

-- a code that is read from the bytes at i, n of them
pub record IsReadFrom (bs : List ℕ) (i n code : ℕ) (there : Option (ℕ × ℕ)) : Type 0 where
  pub long : i + n ≤ length bs
  pub valid : scalar code ≡ true
  pub found : there ≡ Some (code, n)

three_first : (bs cs : List ℕ) → encode_utf8_all cs ≡ bs → all_scalars cs ≡ true → 0 < length bs → 224 ≤ get_or bs 0 0 → get_or bs 0 0 < 240
    → IsReadFrom bs 0 3 (code_of_three (get_or bs 0 0) (get_or bs 1 0) (get_or bs 2 0)) (char_at len_utf8 cs 0)
three_first bs [] e s some low high = absurd (omega (arith, ap length e))
three_first bs (c ∷ cs) e s some low high = elim (cases_lt c 2048) [
  | inl few ↦ absurd (omega (arith, fewer_bytes c (encode_utf8_all cs) few, ap (λ l. get_or l 0 0) e))
  | inr more ↦ elim (cases_lt c 65536) [
    | inr long ↦ absurd (omega (arith, ap (λ l. get_or l 0 0) (four_bytes c (encode_utf8_all cs) long), ap (λ l. get_or l 0 0) e))
    | inl fits ↦
        let is : bs ≡ (224 + c / 4096) ∷ (128 + c / 64 % 64) ∷ (128 + c % 64) ∷ encode_utf8_all cs = sym e ∙ three_bytes c (encode_utf8_all cs) more fits in
        let code : code_of_three (get_or bs 0 0) (get_or bs 1 0) (get_or bs 2 0) ≡ c = grind (arith, is) in
        record {
          long = omega (arith, ap length is);
          valid = cc (code, (and_parts (scalar c) (all_scalars cs) s).0);
          found = grind (arith, nat_tests, code);
        }
  ]
]

four_first : (bs cs : List ℕ) → encode_utf8_all cs ≡ bs → all_scalars cs ≡ true → 0 < length bs → 240 ≤ get_or bs 0 0
    → IsReadFrom bs 0 4 (code_of_four (get_or bs 0 0) (get_or bs 1 0) (get_or bs 2 0) (get_or bs 3 0)) (char_at len_utf8 cs 0)
four_first bs [] e s some high = absurd (omega (arith, ap length e))
four_first bs (c ∷ cs) e s some high = elim (cases_lt c 2048) [
  | inl few ↦ absurd (omega (arith, fewer_bytes c (encode_utf8_all cs) few, ap (λ l. get_or l 0 0) e))
  | inr more ↦ elim (cases_lt c 65536) [
    | inl fits ↦ absurd (omega (arith, ap (λ l. get_or l 0 0) (three_bytes c (encode_utf8_all cs) more fits), ap (λ l. get_or l 0 0) e))
    | inr long ↦
        let is : bs ≡ (240 + c / 262144) ∷ (128 + c / 4096 % 64) ∷ (128 + c / 64 % 64) ∷ (128 + c % 64) ∷ encode_utf8_all cs = sym e ∙ four_bytes c (encode_utf8_all cs) long in
        let here = (and_parts (scalar c) (all_scalars cs) s).0 in
        let code : code_of_four (get_or bs 0 0) (get_or bs 1 0) (get_or bs 2 0) (get_or bs 3 0) ≡ c = grind (arith, is, scalar_below c here) in
        record {
          long = omega (arith, ap length is);
          valid = cc (code, here);
          found = grind (arith, nat_tests, code);
        }
  ]
]

module _ (bs : List ℕ) (i : ℕ) (u : IsUtf8 bs) (begins : is_boundary len_utf8 (chars bs) i ≡ true) (within : i < length bs) where
  cut : IsCharBoundary bs i
  cut = IsCharBoundary-from_is_boundary bs i u begins

  rest_utf8 : IsUtf8 (drop i bs)
  rest_utf8 = IsUtf8-drop bs i u cut

  byte : (k : ℕ) → get_or (drop i bs) k 0 ≡ get_or bs (i + k) 0
  byte k = get_or-drop i bs k 0

  first : get_or (drop i bs) 0 0 ≡ get_or bs i 0
  first = grind (arith, get_or-drop)

  pub char_at-three : 224 ≤ get_or bs i 0 → get_or bs i 0 < 240
      → IsReadFrom bs i 3 (code_of_three (get_or bs i 0) (get_or bs (i + 1) 0) (get_or bs (i + 2) 0)) (char_at len_utf8 (chars bs) i)
  char_at-three low high =
      let w = three_first (drop i bs) (chars (drop i bs)) (encodes-chars (drop i bs) rest_utf8) (scalars-chars (drop i bs) rest_utf8) (omega (arith, length-drop i bs, within)) (omega (arith, first, low)) (omega (arith, first, high)) in
      record {
        long = omega (arith, w.long, length-drop i bs);
        valid = simp (first, byte 1, byte 2) at w.valid;
        found = char_at-from_str bs i u cut ∙ simp (first, byte 1, byte 2) at w.found;
      }

  pub char_at-four : 240 ≤ get_or bs i 0
      → IsReadFrom bs i 4 (code_of_four (get_or bs i 0) (get_or bs (i + 1) 0) (get_or bs (i + 2) 0) (get_or bs (i + 3) 0)) (char_at len_utf8 (chars bs) i)
  char_at-four high =
      let w = four_first (drop i bs) (chars (drop i bs)) (encodes-chars (drop i bs) rest_utf8) (scalars-chars (drop i bs) rest_utf8) (omega (arith, length-drop i bs, within)) (omega (arith, first, high)) in
      record {
        long = omega (arith, w.long, length-drop i bs);
        valid = simp (first, byte 1, byte 2, byte 3) at w.valid;
        found = char_at-from_str bs i u cut ∙ simp (first, byte 1, byte 2, byte 3) at w.found;
      }

-- ---- what `Utf8IndexLenIter` has left

abbrev pub lengths_left : CharIndices → List (ℕ × ℕ)
lengths_left s = indices_lengths_from len_utf8 (char_indices_offset s) (chars (char_indices_rest s))

pub lengths_step : (s t : CharIndices) (p : ℕ × ℕ) → IsUtf8 (char_indices_rest s) → char_indices_steps s (Some p) t → lengths_left s ≡ (p.0, len_utf8 p.1) ∷ lengths_left t
lengths_step s t p u h = grind (arith, chars_past_char, length-encode)
