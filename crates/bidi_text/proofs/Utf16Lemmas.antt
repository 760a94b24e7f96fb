-- Units of UTF-16 as a list of characters: `utf16_text us`, with `utf16_len` for the lengths.
use Rattle.bidi_base.proofs.Common.{zero, suc, ◌≡◌, ◌==◌, ℕ, ◌+◌, ◌-◌, ◌≤◌, Bool, true, false, ◌&&◌, ◌||◌, nat_le, nat_lt, if◌then◌else◌, common_steps, List, [], ◌∷◌, ◌++◌, length, take, drop}
use Rattle.bidi_base.proofs.Common.{get_or, Option, Some, None, inl, inr, refl, ◌∙◌, ap, arith, length-take, length-drop, get_or-drop, drop-cons, ◌<◌, slice_range, cases_Bool, nat_tests}
use Rattle.bidi_base.proofs.Common.{sum_by-cons, text_len, char_at, ascii_of, ascii_at, is_boundary, subrange, IsLine, pair_char, lone_char, utf16_text, utf16_len, splits_pair, MatchOption}
use Rattle.bidi_base.proofs.Common.{is_pair}
use Rattle.bidi_base.specs.Utf16.{IsFirst}
use Rattle.bidi_base.proofs.TextLemmas.{HasUnits, is_boundary-le, char_at-append, char_at-None, char_at-end, subrange-middle}

pub has_units : HasUnits utf16_len
has_units c = grind (arith, nat_tests)

pub utf16_len-lone : (u : ℕ) → utf16_len (lone_char u) ≡ 1
utf16_len-lone u = grind (arith, nat_tests)

pub utf16_len-pair : (u v : ℕ) → utf16_len (pair_char u v) ≡ 2
utf16_len-pair u v = grind arith

-- ---- the characters, step by step

module _ (u v : ℕ) (us : List ℕ) where
  pub text_pair : is_pair u v ≡ true → utf16_text (u ∷ v ∷ us) ≡ pair_char u v ∷ utf16_text us
  text_pair e = ap (λ b. if b then pair_char u v ∷ utf16_text us else (lone_char u ∷ utf16_text (v ∷ us))) e

  pub text_lone : is_pair u v ≡ false → utf16_text (u ∷ v ∷ us) ≡ lone_char u ∷ utf16_text (v ∷ us)
  text_lone e = ap (λ b. if b then pair_char u v ∷ utf16_text us else (lone_char u ∷ utf16_text (v ∷ us))) e

-- the lengths of the characters add up to the units
pub text_len-utf16 : (us : List ℕ) → text_len utf16_len (utf16_text us) ≡ length us
text_len-utf16 [] = refl
text_len-utf16 (u ∷ []) = omega (arith, sum_by-cons utf16_len (lone_char u) [], utf16_len-lone u)
text_len-utf16 (u ∷ v ∷ us) =
    grind (arith, text_pair u v us, text_lone u v us, sum_by-cons utf16_len, utf16_len-pair u v, utf16_len-lone u, text_len-utf16 us, text_len-utf16 (v ∷ us))

-- ---- units that are cut between two characters

-- no pair stands across the index i
abbrev pub NoPairAt : List ℕ → ℕ → Type 0
NoPairAt us i = (n : ℕ) → i ≡ suc n → is_pair (get_or us n 0) (get_or us (suc n) 0) ≡ false

pub utf16_text-cut : (us : List ℕ) (i : ℕ) → NoPairAt us i → utf16_text us ≡ utf16_text (take i us) ++ utf16_text (drop i us)
utf16_text-cut us zero h = refl
utf16_text-cut [] (suc n) h = refl
utf16_text-cut (u ∷ []) (suc zero) h = refl
utf16_text-cut (u ∷ []) (suc (suc n)) h = refl
utf16_text-cut (u ∷ v ∷ us) (suc zero) h = text_lone u v us (h 0 refl)
utf16_text-cut (u ∷ v ∷ us) (suc (suc n)) h = elim (cases_Bool (is_pair u v)) [
  | inl p ↦ rw (p, utf16_text-cut us n (λ m e. h (suc (suc m)) (ap (λ x. suc (suc x)) e))) refl
  | inr q ↦ rw (q, utf16_text-cut (v ∷ us) (suc n) (λ m e. h (suc m) (ap suc e))) refl
]

text_len-front : (us : List ℕ) (i : ℕ) → i ≤ length us → text_len utf16_len (utf16_text (take i us)) ≡ i
text_len-front us i le = omega (arith, text_len-utf16 (take i us), length-take i us)

-- what is there begins what follows
pub char_at-cut : (us : List ℕ) (i : ℕ) → i ≤ length us → NoPairAt us i → char_at utf16_len (utf16_text us) i ≡ char_at utf16_len (utf16_text (drop i us)) 0
char_at-cut us i le n = cc (utf16_text-cut us i n, text_len-front us i le, char_at-append utf16_len has_units (utf16_text (take i us)) (utf16_text (drop i us)))

-- ---- no boundary lies in a pair

-- nor is there a pair past the end
no_pair : (u : ℕ) → is_pair u 0 ≡ false
no_pair u = grind (arith, nat_tests)

-- a boundary past the first character is one of the rest
past_first : (len n : ℕ) (rest : ℕ → Bool) (l : ℕ) → len ≡ l → 1 ≤ n → rest (n - l) ≡ false → (n == 0 || (nat_le len n && rest (n - len))) ≡ false
past_first len n rest l e h f = grind arith

pub is_boundary-inside : (us : List ℕ) (n : ℕ) → is_pair (get_or us n 0) (get_or us (suc n) 0) ≡ true → is_boundary utf16_len (utf16_text us) (suc n) ≡ false
is_boundary-inside [] n p = absurd (cc (p, no_pair 0))
is_boundary-inside (u ∷ []) n p = absurd (cc (p, no_pair (get_or (u ∷ []) n 0)))
is_boundary-inside (u ∷ v ∷ us) zero p = grind arith
is_boundary-inside (u ∷ v ∷ us) (suc zero) p = grind (arith, common_steps)
is_boundary-inside (u ∷ v ∷ us) (suc (suc n)) p = elim (cases_Bool (is_pair u v)) [
  | inl q ↦ rw (text_pair u v us q) (past_first _ _ (is_boundary utf16_len (utf16_text us)) 2 (utf16_len-pair u v) (omega arith) (grind (arith, is_boundary-inside us n)))
  | inr q ↦ rw (text_lone u v us q) (past_first _ _ (is_boundary utf16_len (utf16_text (v ∷ us))) 1 (utf16_len-lone u) (omega arith) (grind (arith, is_boundary-inside (v ∷ us) (suc n))))
]

NoPairAt-from_is_boundary : (us : List ℕ) (i : ℕ) → is_boundary utf16_len (utf16_text us) i ≡ true → NoPairAt us i
NoPairAt-from_is_boundary us i e n is = grind (arith, common_steps, is_boundary-inside)

pub is_boundary-within : (us : List ℕ) (i : ℕ) → is_boundary utf16_len (utf16_text us) i ≡ true → i ≤ length us
is_boundary-within us i e = omega (arith, is_boundary-le utf16_len (utf16_text us) i e, text_len-utf16 us)

-- the characters of a line are those of its units
pub subrange-utf16 : (us : List ℕ) (start end : ℕ) → IsLine utf16_len (utf16_text us) start end → subrange utf16_len (utf16_text us) start end ≡ utf16_text (slice_range us start end)
subrange-utf16 us start end line = let xs : List ℕ = utf16_text (take start us) in
    let mid : List ℕ = utf16_text (slice_range us start end) in
    let within : end ≤ length us = is_boundary-within us end line.ends in
    let ends = NoPairAt-from_is_boundary us end line.ends in
    let parts = utf16_text-cut us start (NoPairAt-from_is_boundary us start line.begins) ∙ ap (λ z. xs ++ z) (utf16_text-cut (drop start us) (end - start) (λ k e. grind (arith, get_or-drop))) in
    let front : text_len utf16_len xs ≡ start = text_len-front us start (omega (arith, line.ordered)) in
    let both : text_len utf16_len xs + text_len utf16_len mid ≡ end = omega (arith, front, text_len-front (drop start us) (end - start) (omega (arith, length-drop start us)), line.ordered) in
    cc (parts, front, both, subrange-middle utf16_len has_units xs mid (utf16_text (drop (end - start) (drop start us))))

-- ---- the character at an index

pub char_at-past : (us : List ℕ) (i : ℕ) → length us ≤ i → char_at utf16_len (utf16_text us) i ≡ None
char_at-past us i le = char_at-end utf16_len has_units (utf16_text us) i (omega (arith, text_len-utf16 us))

-- the units of a pair stand on both sides of i
pub record PairAt (us : List ℕ) (i : ℕ) : Type 0 where
  pub first : ℕ
  pub second : i ≡ suc first
  pub pair : is_pair (get_or us first 0) (get_or us i 0) ≡ true

pub pair_at : (us : List ℕ) (i : ℕ) → splits_pair us i ≡ true → PairAt us i
pair_at us i e = grind arith

-- what is at a place before the last unit
first_two : (u v : ℕ) (us : List ℕ) → char_at utf16_len (utf16_text (u ∷ v ∷ us)) 0 ≡ (if is_pair u v then Some (pair_char u v, 2) else Some (lone_char u, 1))
first_two u v us = grind (arith, text_pair u v us, text_lone u v us, utf16_len-pair u v, utf16_len-lone u)

drop_two : (us : List ℕ) (i : ℕ) → i + 1 < length us → drop i us ≡ get_or us i 0 ∷ get_or us (i + 1) 0 ∷ drop (i + 2) us
drop_two us i within = grind (arith, drop-cons)

pub char_at-next : (us : List ℕ) (i : ℕ) → is_boundary utf16_len (utf16_text us) i ≡ true → i + 1 < text_len utf16_len (utf16_text us)
    → char_at utf16_len (utf16_text us) i ≡ (if is_pair (get_or us i 0) (get_or us (i + 1) 0) then Some (pair_char (get_or us i 0) (get_or us (i + 1) 0), 2) else Some (lone_char (get_or us i 0), 1))
char_at-next us i begins before_last =
    let within : i + 1 < length us = omega (arith, before_last, text_len-utf16 us) in
    char_at-cut us i (omega arith) (NoPairAt-from_is_boundary us i begins) ∙ ap (λ vs. char_at utf16_len (utf16_text vs) 0) (drop_two us i within) ∙ first_two (get_or us i 0) (get_or us (i + 1) 0) (drop (i + 2) us)

pub char_at-inside : (us : List ℕ) (i : ℕ) → splits_pair us i ≡ true → char_at utf16_len (utf16_text us) i ≡ None
char_at-inside us i e =
    let w = pair_at us i e in
    char_at-None utf16_len has_units (utf16_text us) i (grind (arith, w.second, w.pair, is_boundary-inside us w.first))

pub NoPairAt-from_splits_pair : (us : List ℕ) (i : ℕ) → splits_pair us i ≡ false → NoPairAt us i
NoPairAt-from_splits_pair us i e n is = grind arith

-- what the first character says
pub char_at-first : (us : List ℕ) (o : Option (ℕ × ℕ)) → MatchOption o (us ≡ []) (λ p. IsFirst us p.0 p.1) → o ≡ char_at utf16_len (utf16_text us) 0
char_at-first us o h = grind arith

-- ---- a unit below 128 is a whole character, and no other unit begins an ASCII one

abbrev pub ascii_unit : ℕ → Option ℕ
ascii_unit u = if nat_lt u 128 then Some u else None

ascii_first : (u : ℕ) (us : List ℕ) → ascii_of (char_at utf16_len (utf16_text (u ∷ us)) 0) ≡ ascii_unit u
ascii_first u us = grind (arith, nat_tests)

pub ascii_at-unit : (us : List ℕ) (i : ℕ) → i < length us → ascii_at utf16_len (utf16_text us) i ≡ ascii_unit (get_or us i 0)
ascii_at-unit us i within = elim (cases_Bool (splits_pair us i)) [
  | inl inside ↦ grind (arith, nat_tests, char_at-inside us i inside)
  | inr apart ↦ grind (arith, char_at-cut us i, NoPairAt-from_splits_pair us i apart, drop-cons us i 0 within, ascii_first (get_or us i 0) (drop (suc i) us))
]

-- a unit that is no surrogate is a character
low_first : (u : ℕ) (us : List ℕ) → u < 0xD800 → char_at utf16_len (utf16_text (u ∷ us)) 0 ≡ Some (u, 1)
low_first u [] low = grind (arith, nat_tests)
low_first u (v ∷ us) low = grind (arith, nat_tests)

pub char_at-unit : (us : List ℕ) (i : ℕ) → i < length us → get_or us i 0 < 0xD800 → Some (get_or us i 0, 1) ≡ char_at utf16_len (utf16_text us) i
char_at-unit us i within low =
    let apart : splits_pair us i ≡ false = grind (arith, nat_tests) in
    grind (arith, char_at-cut us i, NoPairAt-from_splits_pair us i apart, drop-cons us i 0 within, low_first (get_or us i 0) (drop (suc i) us) low)

pub ascii_at-past : (us : List ℕ) (i : ℕ) → length us ≤ i → ascii_at utf16_len (utf16_text us) i ≡ None
ascii_at-past us i past = ap ascii_of (char_at-past us i past)
