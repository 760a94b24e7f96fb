-- The bytes of a text, turned round one by one, are its characters last first.
use Rattle.bidi_base.proofs.Common.{◌≡◌, ℕ, zero, suc, ◌+◌, ◌-◌, ◌/◌, ◌%◌, ◌<◌, ◌≤◌, Bool, true, nat_lt, List, [], ◌∷◌, ◌++◌, length, get_or, reverse, flat_map, refl, sym, ap, subst, ◌∙◌, arith}
use Rattle.bidi_base.proofs.Common.{inl, inr, cases_lt, and_parts, append-nil, list_all, chars, encode_utf8_all, IsUtf8, flat_map-append, get_or-reverse, reverse-append, reverse-reverse}
use Rattle.bidi_base.proofs.Common.{length-reverse, same_number_lists, encode_ascii, encodes-chars, IsUtf8-nil, IsUtf8-append, IsUtf8-encode}
use Rattle.std.specs.Char.{encode_utf8}
use lib.Utf8.{scalar, scalars}
use Rattle.bidi_lines.specs.ReversedUtf8.{reversed_byte, reversed_byte_at, behind_two}

-- the bytes after two others, each with what is in its place when they are turned round
abbrev reversed_bytes : ℕ → ℕ → List ℕ → List ℕ
reversed_bytes far near [] = []
reversed_bytes far near (b ∷ bs) = reversed_byte far near b (get_or bs 0 0) (get_or bs 1 0) ∷ reversed_bytes near b bs

length-reversed_bytes : (far near : ℕ) (bs : List ℕ) → length (reversed_bytes far near bs) ≡ length bs
length-reversed_bytes far near [] = refl
length-reversed_bytes far near (b ∷ bs) = ap suc (length-reversed_bytes near b bs)

later : (x : ℕ) (xs : List ℕ) (j k : ℕ) → get_or (x ∷ xs) (suc j + k) 0 ≡ get_or xs (j + k) 0
later x xs j k = let e : suc j + k ≡ suc (j + k) = omega arith in simp e

get_or-reversed_bytes : (far near : ℕ) (bs : List ℕ) (j : ℕ) → j < length bs → get_or (reversed_bytes far near bs) j 0 ≡ reversed_byte_at (far ∷ near ∷ bs) j
get_or-reversed_bytes far near [] j fits = absurd (omega arith)
get_or-reversed_bytes far near (b ∷ bs) zero fits = refl
get_or-reversed_bytes far near (b ∷ bs) (suc j) fits = simp (get_or-reversed_bytes near b bs j (omega arith), later far (near ∷ b ∷ bs) j 1, later far (near ∷ b ∷ bs) j 2, later far (near ∷ b ∷ bs) j 3, later far (near ∷ b ∷ bs) j 4)

-- ---- what is in the place of a byte

first_of_three : (far near x next later : ℕ) → 0xE0 ≤ x → reversed_byte far near x next later ≡ later
first_of_three far near x next later big = grind arith

first_of_two : (far near x next later : ℕ) → 0xC0 ≤ x → x < 0xE0 → reversed_byte far near x next later ≡ next
first_of_two far near x next later big small = grind arith

last_of_two : (far near x next later : ℕ) → 0xC0 ≤ near → near < 0xE0 → x < 0xC0 → reversed_byte far near x next later ≡ near
last_of_two far near x next later big small last = grind arith

second_of_three : (far near x next later : ℕ) → far < 0xE0 → 0xE0 ≤ near → x < 0xC0 → reversed_byte far near x next later ≡ x
second_of_three far near x next later low big second = grind arith

last_of_three : (far near x next later : ℕ) → 0xE0 ≤ far → near < 0xC0 → x < 0xC0 → reversed_byte far near x next later ≡ far
last_of_three far near x next later big second last = grind arith

only_one : (far near x next later : ℕ) → far < 0xE0 → near < 0xC0 → x < 0xC0 → reversed_byte far near x next later ≡ x
only_one far near x next later low inside small = grind arith

-- ---- the bytes of a character

encode_two : (c : ℕ) → 0x80 ≤ c → c < 0x800 → encode_utf8 c ≡ (0xC0 + c / 64) ∷ (0x80 + c % 64) ∷ []
unfolding encode_utf8
encode_two c low high = grind arith

encode_three : (c : ℕ) → 0x800 ≤ c → c < 0x1_0000 → encode_utf8 c ≡ (0xE0 + c / 4096) ∷ (0x80 + c / 64 % 64) ∷ (0x80 + c % 64) ∷ []
unfolding encode_utf8
encode_three c low high = grind arith

encode_four : (c : ℕ) → 0x1_0000 ≤ c → encode_utf8 c ≡ (0xF0 + c / 262144) ∷ (0x80 + c / 4096 % 64) ∷ (0x80 + c / 64 % 64) ∷ (0x80 + c % 64) ∷ []
unfolding encode_utf8
encode_four c low = grind arith

abbrev pub all_short : List ℕ → Bool
all_short bs = list_all (λ b. nat_lt b 0xF0) bs

-- no first byte is near, and none of three or more is far
record Ended (far near : ℕ) : Type 0 where
  low : far < 0xE0
  inside : near < 0xC0

-- the bytes of a character are turned, whatever stands after them
record AreReversed (far near : ℕ) (bytes rest : List ℕ) : Type 0 where
  last_but_one : ℕ
  last : ℕ
  ended : Ended last_but_one last
  turned : reversed_bytes far near (bytes ++ rest) ≡ reverse bytes ++ reversed_bytes last_but_one last rest

module _ (far near : ℕ) (h : Ended far near) (rest : List ℕ) where
  one : (x : ℕ) → x < 0x80 → AreReversed far near (x ∷ []) rest
  one x small = record {
    last_but_one = near;
    last = x;
    ended = record { low = omega (arith, h.inside); inside = omega arith };
    turned = simp (only_one far near x (get_or rest 0 0) (get_or rest 1 0) h.low h.inside (omega arith));
  }

  two : (x y : ℕ) → 0xC0 ≤ x → x < 0xE0 → y < 0xC0 → AreReversed far near (x ∷ y ∷ []) rest
  two x y big small last = record {
    last_but_one = x;
    last = y;
    ended = record { low = small; inside = last };
    turned = simp (first_of_two far near x y (get_or rest 0 0) big small, last_of_two near x y (get_or rest 0 0) (get_or rest 1 0) big small last);
  }

  three : (x y z : ℕ) → 0xE0 ≤ x → y < 0xC0 → z < 0xC0 → AreReversed far near (x ∷ y ∷ z ∷ []) rest
  three x y z big second last = record {
    last_but_one = y;
    last = z;
    ended = record { low = omega arith; inside = last };
    turned = simp (first_of_three far near x y z big, second_of_three near x y z (get_or rest 0 0) (omega (arith, h.inside)) big second, last_of_three x y z (get_or rest 0 0) (get_or rest 1 0) big second last);
  }

  character : (c : ℕ) → all_short (encode_utf8 c ++ rest) ≡ true → AreReversed far near (encode_utf8 c) rest
  character c short = elim (cases_lt c 0x80) [
    | inl ascii ↦ rw (encode_ascii c ascii) (one c ascii)
    | inr beyond ↦ elim (cases_lt c 0x800) [
      | inl of_two ↦ rw (encode_two c beyond of_two) (two (0xC0 + c / 64) (0x80 + c % 64) (omega arith) (omega arith) (omega arith))
      | inr further ↦ elim (cases_lt c 0x1_0000) [
        | inl of_three ↦ rw (encode_three c further of_three) (three (0xE0 + c / 4096) (0x80 + c / 64 % 64) (0x80 + c % 64) (omega arith) (omega arith) (omega arith))
        | inr of_four ↦ absurd (omega (arith, too_long (simp (encode_four c of_four) at short)))
      ]
    ]
  ]
    where
      too_long : all_short (((0xF0 + c / 262144) ∷ (0x80 + c / 4096 % 64) ∷ (0x80 + c / 64 % 64) ∷ (0x80 + c % 64) ∷ []) ++ rest) ≡ true → 1 ≤ 0
      too_long e = grind arith

all_short-behind : (xs ys : List ℕ) → all_short (xs ++ ys) ≡ true → all_short ys ≡ true
all_short-behind [] ys h = h
all_short-behind (x ∷ xs) ys h = all_short-behind xs ys (and_parts (nat_lt x 0xF0) (all_short (xs ++ ys)) h).1

reversed_bytes-encodes : (far near : ℕ) → Ended far near → (cs : List ℕ) → all_short (encode_utf8_all cs) ≡ true → reversed_bytes far near (encode_utf8_all cs) ≡ flat_map (λ c. reverse (encode_utf8 c)) cs
reversed_bytes-encodes far near h [] short = refl
reversed_bytes-encodes far near h (c ∷ cs) short =
    let first = character far near h (encode_utf8_all cs) c short in
    first.turned ∙ ap (λ bs. reverse (encode_utf8 c) ++ bs)
    (reversed_bytes-encodes first.last_but_one first.last first.ended cs (all_short-behind (encode_utf8 c) (encode_utf8_all cs) short))

-- ---- a text

reverse-flat_map : (cs : List ℕ) → reverse (flat_map (λ c. reverse (encode_utf8 c)) cs) ≡ flat_map encode_utf8 (reverse cs)
reverse-flat_map [] = refl
reverse-flat_map (c ∷ cs) =
    simp (reverse-append (reverse (encode_utf8 c)) (flat_map (λ d. reverse (encode_utf8 d)) cs), reverse-flat_map cs, reverse-reverse (encode_utf8 c))
    (sym (ap (flat_map encode_utf8) (reverse-append (c ∷ []) cs) ∙ flat_map-append encode_utf8 (reverse cs) (c ∷ []) ∙ ap (λ bs. flat_map encode_utf8 (reverse cs) ++ bs) (append-nil (encode_utf8 c))))

-- a text with its characters last first is a text
pub backwards-utf8 : (cs : List ℕ) → scalars cs ≡ true → IsUtf8 (flat_map encode_utf8 (reverse cs))
backwards-utf8 [] h = IsUtf8-nil
backwards-utf8 (c ∷ cs) h =
    let parts = and_parts (scalar c) (scalars cs) h in
    subst IsUtf8 (sym (ap (flat_map encode_utf8) (reverse-append (c ∷ []) cs) ∙ flat_map-append encode_utf8 (reverse cs) (c ∷ []) ∙ ap (λ bs. flat_map encode_utf8 (reverse cs) ++ bs) (append-nil (encode_utf8 c))))
    (IsUtf8-append (flat_map encode_utf8 (reverse cs)) (encode_utf8 c) (backwards-utf8 cs parts.1) (IsUtf8-encode c parts.0))

-- bytes that were turned one by one are the text's characters, last first
pub reversed-chars : (text out : List ℕ) → IsUtf8 text → all_short text ≡ true → length out ≡ length text
    → ((j : ℕ) → j < length out → get_or out (length out - 1 - j) 0 ≡ reversed_byte_at (behind_two text) j) → out ≡ flat_map encode_utf8 (reverse (chars text))
reversed-chars text out u short same turned =
    let bytes = encodes-chars text u in
    let whole : reversed_bytes 0 0 text ≡ flat_map (λ c. reverse (encode_utf8 c)) (chars text) =
    subst (λ bs. reversed_bytes 0 0 bs ≡ flat_map (λ c. reverse (encode_utf8 c)) (chars text)) bytes
    (reversed_bytes-encodes 0 0 (record { low = omega arith; inside = omega arith }) (chars text) (subst (λ bs. all_short bs ≡ true) (sym bytes) short)) in
    let long = length-reversed_bytes 0 0 text in
    same_number_lists out (reverse (reversed_bytes 0 0 text)) (same ∙ sym (length-reverse (reversed_bytes 0 0 text) ∙ long))
    (λ k fits.
    let j = length out - 1 - k in
    let back : length out - 1 - j ≡ k = omega arith in
    let at : length (reversed_bytes 0 0 text) - 1 - k ≡ j = omega (arith, long, same) in
    ap (λ n. get_or out n 0) (sym back) ∙ turned j (omega arith) ∙ sym (get_or-reversed_bytes 0 0 text j (omega (arith, same)))
    ∙ ap (λ n. get_or (reversed_bytes 0 0 text) n 0) (sym at) ∙ sym (get_or-reverse (reversed_bytes 0 0 text) k 0 (omega (arith, long, same))))
    ∙ ap reverse whole ∙ reverse-flat_map (chars text)
