-- Where bytes stop being UTF-8, if they are cut after an ASCII byte.
use Rattle.bidi_base.proofs.Common.{◌≡◌, ℕ, ◌+◌, ◌-◌, ◌<◌, ◌≤◌, false, ◌==◌, List, [], ◌∷◌, ◌++◌, Option, None, Some, length, get_or, take, drop, refl, sym, ap, subst, ◌∙◌, arith, length-append}
use Rattle.bidi_base.proofs.Common.{IsUtf8, append_assoc, take_all, cases_lt, cond-true, cond-false, eq-eqb, nat_tests, get_or-append_seam, length-take-le, take-append-drop, option_map, ⊎_elim}
use Rattle.bidi_base.proofs.Common.{zero-add, take-append-add, take-append_seam, drop-append_seam, take-append-le, IsUtf8-nil, IsUtf8-append, IsUtf8-take, IsUtf8-drop, IsCharBoundary-from_take}
use Rattle.bidi_base.proofs.Common.{IsCharBoundary-after_ascii, utf8_valid_len-IsUtf8, utf8_valid_len}
use Rattle.std.proofs.lemmas.Str.{utf8_valid_len-IsValidUpTo}
use Rattle.std.specs.Str.{IsValidUpTo}
use Rattle.bstr.proofs.lemmas.LossyLemmas.{utf8_valid_len-cases}
use Rattle.bidi_controls.specs.Decoded.{utf8_fault, fault_from}

module _ (xs : List ℕ) where
  -- what follows text in a text is text
  text_behind : (zs : List ℕ) → IsUtf8 xs → IsUtf8 (xs ++ zs) → IsUtf8 zs
  text_behind zs u t =
      let here : IsUtf8 (take (length xs) (xs ++ zs)) = rw (take-append_seam xs zs) u in
      let boundary = IsCharBoundary-from_take (xs ++ zs) (length xs) t (omega (arith, length-append xs zs)) here in
      subst IsUtf8 (drop-append_seam xs zs) (IsUtf8-drop (xs ++ zs) (length xs) t boundary)

  split_take : (ys : List ℕ) (m : ℕ) → length xs ≤ m → take m (xs ++ ys) ≡ xs ++ take (m - length xs) ys
  split_take ys m le =
      let same : length xs + (m - length xs) ≡ m = omega arith in
      ap (λ k. take k (xs ++ ys)) (sym same) ∙ take-append-add xs ys (m - length xs)

  IsValidUpTo-behind : (ys : List ℕ) (n : ℕ) → IsUtf8 xs → IsValidUpTo ys n → IsValidUpTo (xs ++ ys) (length xs + n)
  IsValidUpTo-behind ys n u v = record {
    short = omega (arith, length-append xs ys, v.short);
    front = rw (take-append-add xs ys n) (IsUtf8-append xs (take n ys) u v.front);
    longest = λ m above t. v.longest (m - length xs) (omega arith) (text_behind (take (m - length xs) ys) u (subst IsUtf8 (split_take ys m (omega arith)) t));
  }

module _ (before : List ℕ) (a : ℕ) (low : a < 128) where
  abbrev xs : List ℕ
  xs = before ++ a ∷ []

  -- bytes that begin with these are no text unless these are
  text_before : (zs : List ℕ) → IsUtf8 (xs ++ zs) → IsUtf8 xs
  text_before zs t =
      let long : length xs ≡ length before + 1 = length-append before (a ∷ []) in
      let all = length-append xs zs in
      let last : get_or (xs ++ zs) (length before) 0 ≡ a = ap (λ t. get_or t (length before) 0) (append_assoc before (a ∷ []) zs) ∙ get_or-append_seam before a zs 0 in
      let boundary = IsCharBoundary-after_ascii (xs ++ zs) (length before) t (omega arith) (omega arith) in
      subst IsUtf8 (ap (λ k. take k (xs ++ zs)) (sym long) ∙ take-append_seam xs zs) (IsUtf8-take (xs ++ zs) (length before + 1) t boundary)

  IsValidUpTo-before : (ys : List ℕ) (n : ℕ) → IsValidUpTo xs n → IsValidUpTo (xs ++ ys) n
  IsValidUpTo-before ys n v =
      let short : n < length xs = v.short in record {
        short = omega (arith, length-append xs ys);
        front = rw (take-append-le n xs ys (omega arith)) v.front;
        longest = λ m above t. ⊎_elim
            (λ (inside : m < length xs). v.longest m above (subst IsUtf8 (take-append-le m xs ys (omega arith)) t))
            (λ (past : length xs ≤ m).
            v.longest (length xs) short (subst IsUtf8 (sym (take_all (length xs) xs (omega arith))) (text_before (take (m - length xs) ys) (subst IsUtf8 (split_take xs ys m past) t))))
            (cases_lt m (length xs));
      }

fault-none : (bytes : List ℕ) → IsUtf8 bytes → utf8_fault bytes ≡ None
fault-none bytes u = cond-true _ _ _ (eq-eqb (utf8_valid_len bytes) (length bytes) (utf8_valid_len-IsUtf8 bytes u))

fault-some : (bytes : List ℕ) (n : ℕ) → IsValidUpTo bytes n → utf8_fault bytes ≡ Some n
fault-some bytes n v =
    let is = utf8_valid_len-IsValidUpTo bytes n v in let short : n < length bytes = v.short in
    let no : (utf8_valid_len bytes == length bytes) ≡ false = grind (arith, nat_tests) in
    cond-false _ _ _ no ∙ ap Some is

fault-behind : (xs ys : List ℕ) → IsUtf8 xs → utf8_fault (xs ++ ys) ≡ fault_from None (length xs) ys
fault-behind xs ys u = ⊎_elim
    (λ v. rw (fault-none (xs ++ ys) (IsUtf8-append xs ys u v), fault-none ys v) refl)
    (λ v. rw (fault-some (xs ++ ys) (length xs + utf8_valid_len ys) (IsValidUpTo-behind xs ys (utf8_valid_len ys) u v), fault-some ys (utf8_valid_len ys) v) refl)
    (utf8_valid_len-cases ys)

-- bytes that are cut after an ASCII byte
pub utf8_fault-cut : (before : List ℕ) (a : ℕ) (after : List ℕ) → a < 128
    → utf8_fault ((before ++ a ∷ []) ++ after) ≡ fault_from (utf8_fault (before ++ a ∷ [])) (length (before ++ a ∷ [])) after
utf8_fault-cut before a after low =
    let xs = before ++ a ∷ [] in
    ⊎_elim
    (λ u. rw (fault-none xs u) (fault-behind xs after u))
    (λ v. let n = utf8_valid_len xs in rw (fault-some xs n v) (fault-some (xs ++ after) n (IsValidUpTo-before before a low after n v)))
    (utf8_valid_len-cases xs)

-- the same for bytes whose first n end with an ASCII byte
pub utf8_fault-at : (bytes more before : List ℕ) (n a : ℕ) → take n bytes ≡ before ++ a ∷ [] → a < 128 → n ≤ length bytes
    → utf8_fault (bytes ++ more) ≡ fault_from (utf8_fault (take n bytes)) n (drop n bytes ++ more)
utf8_fault-at bytes more before n a front low within =
    let long : length (before ++ a ∷ []) ≡ n = ap length (sym front) ∙ length-take-le n bytes within in
    let whole : bytes ++ more ≡ (before ++ a ∷ []) ++ (drop n bytes ++ more) =
    ap (λ t. t ++ more) (sym (take-append-drop n bytes)) ∙ append_assoc (take n bytes) (drop n bytes) more ∙ ap (λ t. t ++ (drop n bytes ++ more)) front in
    ap utf8_fault whole ∙ utf8_fault-cut before a (drop n bytes ++ more) low
    ∙ ap (λ t. fault_from (utf8_fault t) (length (before ++ a ∷ [])) (drop n bytes ++ more)) (sym front)
    ∙ ap (λ k. fault_from (utf8_fault (take n bytes)) k (drop n bytes ++ more)) long

from_start : (found : Option ℕ) → option_map (λ at. 0 + at) found ≡ found
from_start None = refl
from_start (Some at) = ap Some (zero-add at)

-- nothing is before them
pub utf8_fault-start : (bytes : List ℕ) → utf8_fault bytes ≡ fault_from (utf8_fault []) 0 bytes
utf8_fault-start bytes = rw (fault-none [] IsUtf8-nil) (sym (from_start (utf8_fault bytes)))
