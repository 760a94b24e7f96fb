-- The longest front of bytes that is UTF-8, read piece by piece.
use Rattle.bidi_base.proofs.Common.{◌≡◌, ◌⊎◌, inl, inr, ◌∙◌, ℕ, zero, suc, ◌+◌, ◌-◌, ◌<◌, ◌≤◌, true, false, List, [], ◌∷◌, ◌++◌, length, take, drop, refl, sym, ap, subst, arith, cases_Bool}
use Rattle.bidi_base.proofs.Common.{cases_lt, cond-true, cond-false, and_parts, length-append, length-take, length-drop, length-encode, take-take, take-append-drop, take_all, take-append_seam}
use Rattle.bidi_base.proofs.Common.{chars-nil, IsUtf8, chars, encode_utf8, encode_utf8_all, is_utf8, all_scalars, drop-take, IsUtf8-append, IsUtf8-drop}
use Rattle.bidi_base.proofs.Common.{IsUtf8-encode, is_utf8-from_IsUtf8, IsCharBoundary-from_take, chars-append, len_utf8_bounds, utf8_valid_len_le, utf8_valid_len-IsUtf8}
use Rattle.std.specs.Str.Lossy.{valid_len_up_to}
use Rattle.std.proofs.Common.{true≢false, take-add}
use Rattle.std.specs.Str.Lossy.{utf8_valid_len}
use Rattle.std.proofs.lemmas.Str.{IsUtf8-from_is_utf8}
use Rattle.bidi_calls.specs.FirstDirection.{utf8_front}

-- ---- the longest front

last_of : (k m : ℕ) → m < k → k ≤ suc m → k ≡ suc m
last_of k m above within = omega arith

longest_front : (bs : List ℕ) (m : ℕ) → IsUtf8 (take (valid_len_up_to bs m) bs) × ((k : ℕ) → valid_len_up_to bs m < k → k ≤ m → ¬ (IsUtf8 (take k bs)))
longest_front bs zero = (([], (refl, refl)), λ k above within. absurd (omega arith))
longest_front bs (suc m) = elim (cases_Bool (is_utf8 (take (suc m) bs))) [
  | inl valid ↦
      let is : valid_len_up_to bs (suc m) ≡ suc m = cond-true _ _ _ valid in
      (subst (λ n. IsUtf8 (take n bs)) (sym is) (IsUtf8-from_is_utf8 _ valid), λ k above within. absurd (omega arith))
  | inr invalid ↦
      let rest = longest_front bs m in
      let is : valid_len_up_to bs (suc m) ≡ valid_len_up_to bs m = cond-false _ _ _ invalid in (
        subst (λ n. IsUtf8 (take n bs)) (sym is) rest.0,
        λ k above within u. elim (cases_lt m k) [
          | inl top ↦ true≢false (sym (is_utf8-from_IsUtf8 _ (subst (λ n. IsUtf8 (take n bs)) (last_of k m top within) u)) ∙ invalid)
          | inr low ↦ rest.1 k (omega arith) low u
        ],
      )
]

pub front-IsUtf8 : (bs : List ℕ) → IsUtf8 (take (utf8_valid_len bs) bs)
unfolding utf8_valid_len
front-IsUtf8 bs = (longest_front bs (length bs)).0

-- no front that is UTF-8 is longer
pub front-longest : (bs : List ℕ) (k : ℕ) → k ≤ length bs → IsUtf8 (take k bs) → k ≤ utf8_valid_len bs
unfolding utf8_valid_len
front-longest bs k within u = elim (cases_lt (utf8_valid_len bs) k) [
  | inl above ↦ absurd ((longest_front bs (length bs)).1 k above within u)
  | inr low ↦ low
]

-- ---- a front, and what follows it

module _ (bs : List ℕ) (n : ℕ) (within : n ≤ length bs) (front : IsUtf8 (take n bs)) where
  after_front : IsUtf8 (drop n bs) → IsUtf8 bs
  after_front rest = subst IsUtf8 (take-append-drop n bs) (IsUtf8-append _ _ front rest)

  before_rest : IsUtf8 bs → IsUtf8 (drop n bs)
  before_rest whole = IsUtf8-drop bs n whole (IsCharBoundary-from_take bs n whole within front)

  pub is_utf8-drop : is_utf8 bs ≡ is_utf8 (drop n bs)
  is_utf8-drop = elim (cases_Bool (is_utf8 bs)) [
    | inl valid ↦ valid ∙ sym (is_utf8-from_IsUtf8 _ (before_rest (IsUtf8-from_is_utf8 _ valid)))
    | inr invalid ↦ elim (cases_Bool (is_utf8 (drop n bs))) [
      | inl rest ↦ absurd (true≢false (sym (is_utf8-from_IsUtf8 _ (after_front (IsUtf8-from_is_utf8 _ rest))) ∙ invalid))
      | inr neither ↦ invalid ∙ sym neither
    ]
  ]

  valid_len-le : n + utf8_valid_len (drop n bs) ≤ utf8_valid_len bs
  valid_len-le =
      let v = utf8_valid_len (drop n bs) in
      front-longest bs (n + v) (omega (arith, length-drop n bs, utf8_valid_len_le (drop n bs), within)) (rw take-add (IsUtf8-append _ _ front (front-IsUtf8 (drop n bs))))

  valid_len-ge : utf8_valid_len bs ≤ n + utf8_valid_len (drop n bs)
  valid_len-ge =
      let v = utf8_valid_len bs in
      let long : n ≤ v = front-longest bs n within front in
      let whole : IsUtf8 (take v bs) = front-IsUtf8 bs in
      let short : v ≤ length bs = utf8_valid_len_le bs in
      let own : IsUtf8 (take n (take v bs)) = rw (take-take n v bs long) front in
      let rest : IsUtf8 (drop n (take v bs)) = IsUtf8-drop (take v bs) n whole (IsCharBoundary-from_take (take v bs) n whole (omega (arith, length-take v bs)) own) in
      let sum : n + (v - n) ≡ v = omega arith in
      let part : IsUtf8 (take (v - n) (drop n bs)) = rw (← drop-take n (v - n) bs, sum) rest in
      omega (arith, front-longest (drop n bs) (v - n) (omega (arith, length-drop n bs)) part)

  -- the characters of a front, and those that follow
  pub utf8_front-more : utf8_front bs ≡ chars (take n bs) ++ utf8_front (drop n bs)
  utf8_front-more =
      let v = utf8_valid_len (drop n bs) in
      let same : utf8_valid_len bs ≡ n + v = omega (arith, valid_len-le, valid_len-ge) in
      ap (λ k. chars (take k bs)) same ∙ ap chars (take-add n v bs) ∙ chars-append (take n bs) (take v (drop n bs)) front

-- ---- the front of a piece

-- it is a front of the whole
pub piece-front : (bs : List ℕ) (k : ℕ) → let n = utf8_valid_len (take k bs) in (n ≤ length bs) × (n ≤ k) × (take n (take k bs) ≡ take n bs) × IsUtf8 (take n bs)
piece-front bs k =
    let n = utf8_valid_len (take k bs) in
    let short : n ≤ length (take k bs) = utf8_valid_len_le (take k bs) in
    let len = length-take k bs in
    let inner : n ≤ k = omega arith in
    let same = take-take n k bs inner in
    (omega arith, inner, same, subst IsUtf8 same (front-IsUtf8 (take k bs)))

-- a front that has some bytes begins with a character, of four bytes at the most
first_char : (bs : List ℕ) (v : ℕ) → 0 < v → v ≤ length bs → (cs : List ℕ) → all_scalars cs ≡ true → encode_utf8_all cs ≡ take v bs → (m : ℕ) × (0 < m) × (m ≤ 4) × (m ≤ v) × IsUtf8 (take m bs)
first_char bs v some within [] all e = absurd (omega (arith, ap length e, length-take v bs))
first_char bs v some within (c ∷ cs) all e =
    let m = length (encode_utf8 c) in
    let size = length-encode c in
    let bounds = len_utf8_bounds c in
    let len : m + length (encode_utf8_all cs) ≡ v = omega (arith, length-append (encode_utf8 c) (encode_utf8_all cs), ap length e, length-take v bs) in
    let first : encode_utf8 c ≡ take m bs = sym (take-append_seam (encode_utf8 c) (encode_utf8_all cs)) ∙ ap (take m) e ∙ take-take m v bs (omega arith) in
    (m, omega arith, omega arith, omega arith, subst IsUtf8 first (IsUtf8-encode c (and_parts _ _ all).0))

-- where a piece of four bytes or more, or of all, begins with no character, the whole begins with none
pub no_front : (bs : List ℕ) (k : ℕ) → 4 ≤ k ⊎ length bs ≤ k → utf8_valid_len (take k bs) ≡ 0 → utf8_valid_len bs ≡ 0
no_front bs k long none = elim (cases_lt 0 (utf8_valid_len bs)) [
  | inl some ↦
      let u = front-IsUtf8 bs in
      let within = utf8_valid_len_le bs in
      let w = first_char bs (utf8_valid_len bs) some within u.0 u.1.0 u.1.1 in
      let m = w.0 in
      let inner : m ≤ k = elim long [ inl four ↦ omega (arith, w.2) | inr all ↦ omega (arith, w.3) ] in
      let front : IsUtf8 (take m (take k bs)) = rw (take-take m k bs inner) w.4 in
      absurd (omega (arith, front-longest (take k bs) m (omega (arith, length-take k bs, w.3)) front, w.1))
  | inr low ↦ omega arith
]

-- and it is not UTF-8, if it has some bytes
pub no_front-is_utf8 : (bs : List ℕ) → 0 < length bs → utf8_valid_len bs ≡ 0 → is_utf8 bs ≡ false
no_front-is_utf8 bs some none = elim (cases_Bool (is_utf8 bs)) [
  | inl valid ↦ absurd (omega (arith, utf8_valid_len-IsUtf8 bs (IsUtf8-from_is_utf8 bs valid)))
  | inr invalid ↦ invalid
]

pub utf8_front-none : (bs : List ℕ) → utf8_valid_len bs ≡ 0 → utf8_front bs ≡ []
utf8_front-none bs none = ap (λ k. chars (take k bs)) none ∙ chars-nil

pub utf8_front-valid : (bs : List ℕ) → IsUtf8 bs → utf8_front bs ≡ chars bs
utf8_front-valid bs u = ap chars (take_all (utf8_valid_len bs) bs (omega (arith, utf8_valid_len-IsUtf8 bs u)))
