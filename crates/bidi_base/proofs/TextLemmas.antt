-- Texts cut at boundaries: a boundary is the length of some first characters.
use Rattle.bidi_base.proofs.Common.{◌≡◌, ◌==◌, ℕ, ◌+◌, ◌-◌, ◌≤◌, true, false, ◌||◌, nat_lt, cond, List, [], ◌∷◌, ◌++◌, length, None, is_some, option_map}
use Rattle.bidi_base.proofs.Common.{slice_get, count_by, refl, sym, ap, append_assoc, arith, le-ltb, length-append, take-append_seam, drop-append_seam}
use Rattle.bidi_base.proofs.Common.{sum_by-cons, sum_by-append, nat_tests, text_len, char_at, is_boundary, char_indices_from, char_index, subrange}

-- every character is at least one unit long
abbrev pub HasUnits : (ℕ → ℕ) → Type 0
HasUnits len_of = (c : ℕ) → 1 ≤ len_of c

pub length-le-text_len : (len_of : ℕ → ℕ) → HasUnits len_of → (chars : List ℕ) → length chars ≤ text_len len_of chars
length-le-text_len len_of h [] = omega arith
length-le-text_len len_of h (c ∷ cs) = omega (arith, length-le-text_len len_of h cs, h c, sum_by-cons len_of c cs)

-- ---- boundaries and what is there

-- a boundary is the text's length, or a character begins there
pub is_boundary-char_at : (len_of : ℕ → ℕ) → HasUnits len_of → (chars : List ℕ) (u : ℕ) → is_boundary len_of chars u ≡ ((u == text_len len_of chars) || is_some (char_at len_of chars u))
is_boundary-char_at len_of h [] u = grind (arith, nat_tests)
is_boundary-char_at len_of h (c ∷ cs) u = grind (arith, sum_by-cons, is_boundary-char_at len_of h cs (u - len_of c), nat_tests)

pub char_at-zero : (len_of : ℕ → ℕ) (chars : List ℕ) → char_at len_of chars 0 ≡ option_map (λ c. (c, len_of c)) (slice_get chars 0)
char_at-zero len_of [] = refl
char_at-zero len_of (c ∷ cs) = refl

-- no character begins inside one
pub char_at-None : (len_of : ℕ → ℕ) → HasUnits len_of → (chars : List ℕ) (u : ℕ) → is_boundary len_of chars u ≡ false → char_at len_of chars u ≡ None
char_at-None len_of h chars u e = grind (arith, is_boundary-char_at)

-- nor at the text's length and past it
pub char_at-end : (len_of : ℕ → ℕ) → HasUnits len_of → (chars : List ℕ) (u : ℕ) → text_len len_of chars ≤ u → char_at len_of chars u ≡ None
char_at-end len_of h [] u le = refl
char_at-end len_of h (c ∷ cs) u le = grind (arith, sum_by-cons, char_at-end len_of h cs (u - len_of c), nat_tests)

-- ---- a text of two or three parts

minus_plus : (a b : ℕ) → (a + b) - a ≡ b
minus_plus a b = omega arith

-- what is after the characters xs stands at their length
pub char_at-append : (len_of : ℕ → ℕ) → HasUnits len_of → (xs ys : List ℕ) → char_at len_of (xs ++ ys) (text_len len_of xs) ≡ char_at len_of ys 0
char_at-append len_of h [] ys = refl
char_at-append len_of h (x ∷ xs) ys = grind (arith, sum_by-cons, minus_plus, char_at-append len_of h xs ys, nat_tests)

pub is_boundary-append : (len_of : ℕ → ℕ) (xs ys : List ℕ) → is_boundary len_of (xs ++ ys) (text_len len_of xs) ≡ true
is_boundary-append len_of [] [] = refl
is_boundary-append len_of [] (y ∷ ys) = refl
is_boundary-append len_of (x ∷ xs) ys = grind (arith, sum_by-cons, minus_plus, is_boundary-append len_of xs ys, nat_tests)

none_before : (len_of : ℕ → ℕ) (from u : ℕ) (chars : List ℕ) → u ≤ from → count_by (λ (e : ℕ × ℕ). nat_lt e.0 u) (char_indices_from len_of from chars) ≡ 0
none_before len_of from u [] order = refl
none_before len_of from u (c ∷ cs) order = grind (arith, le-ltb, sum_by-cons, none_before len_of (from + len_of c) u cs)

counted : (len_of : ℕ → ℕ) → HasUnits len_of → (from u : ℕ) (xs ys : List ℕ) → u ≡ from + text_len len_of xs
    → count_by (λ (e : ℕ × ℕ). nat_lt e.0 u) (char_indices_from len_of from (xs ++ ys)) ≡ length xs
counted len_of h from u [] ys e = none_before len_of from u ys (omega arith)
counted len_of h from u (x ∷ xs) ys e =
    let rest = counted len_of h (from + len_of x) u xs ys in
    grind (arith, h x, sum_by-cons len_of x xs, sum_by-cons (λ (e : ℕ × ℕ). cond (nat_lt e.0 u) 1 0) (from, x) (char_indices_from len_of (from + len_of x) (xs ++ ys)), rest)

-- the characters before the length of xs are xs
pub char_index-append : (len_of : ℕ → ℕ) → HasUnits len_of → (xs ys : List ℕ) → char_index len_of (xs ++ ys) (text_len len_of xs) ≡ length xs
char_index-append len_of h xs ys = counted len_of h 0 (text_len len_of xs) xs ys (omega arith)

-- the middle one of three parts
pub subrange-middle : (len_of : ℕ → ℕ) → HasUnits len_of → (xs ys zs : List ℕ) → subrange len_of (xs ++ (ys ++ zs)) (text_len len_of xs) (text_len len_of xs + text_len len_of ys) ≡ ys
subrange-middle len_of h xs ys zs =
    let last : char_index len_of (xs ++ (ys ++ zs)) (text_len len_of xs + text_len len_of ys) ≡ length xs + length ys =
    cc (char_index-append len_of h (xs ++ ys) zs, append_assoc xs ys zs, sum_by-append len_of xs ys, length-append xs ys) in
    rw (char_index-append len_of h xs (ys ++ zs), last, minus_plus (length xs) (length ys), drop-append_seam xs (ys ++ zs)) (take-append_seam ys zs)

-- ---- a boundary cuts a text in two

-- the text is the characters before unit u and those after
pub record CutAt (len_of : ℕ → ℕ) (chars : List ℕ) (u : ℕ) : Type 0 where
  pub front : List ℕ
  pub back : List ℕ
  pub joined : chars ≡ front ++ back
  pub long : text_len len_of front ≡ u

cut_later : (len_of : ℕ → ℕ) (c : ℕ) (cs : List ℕ) (u : ℕ) → len_of c ≤ u → CutAt len_of cs (u - len_of c) → CutAt len_of (c ∷ cs) u
cut_later len_of c cs u le w = record { front = c ∷ w.front; back = w.back; joined = ap (λ ds. c ∷ ds) w.joined; long = rw (sum_by-cons len_of c w.front) (omega (arith, w.long)) }

pub zero_test : (u : ℕ) → (u == 0) ≡ true → u ≡ 0
zero_test u e = grind (arith, nat_tests)

pub cut_at : (len_of : ℕ → ℕ) (chars : List ℕ) (u : ℕ) → is_boundary len_of chars u ≡ true → CutAt len_of chars u
cut_at len_of [] u e = record { front = []; back = []; joined = refl; long = sym (zero_test u e) }
cut_at len_of (c ∷ cs) u e = grind (arith, cut_later, cut_at len_of cs (u - len_of c), nat_tests)

-- a boundary is within the text
pub is_boundary-le : (len_of : ℕ → ℕ) (chars : List ℕ) (u : ℕ) → is_boundary len_of chars u ≡ true → u ≤ text_len len_of chars
is_boundary-le len_of chars u e = grind (arith, cut_at len_of chars u e, sum_by-append len_of)
