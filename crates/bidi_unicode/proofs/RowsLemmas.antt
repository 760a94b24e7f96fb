-- What is found in a table whose rows ascend.
use Rattle.bidi_base.proofs.Common.{◌≡◌, ◌≢◌, ℕ, zero, suc, ◌+◌, ◌<◌, ◌≤◌, true, nat_le, list_all, and_parts, leb-true, ◌∙◌, List, [], ◌∷◌}
use Rattle.bidi_base.proofs.Common.{length, get_or, Some, None, Result, Ok, Err, refl, sym, arith, cases_lt, nat_tests}
use Rattle.std.proofs.Common.{MatchResult, zero-le, not-suc-le-zero}
use Rattle.std.specs.List.Sorted.{IsSearchInRange, IsBinarySearchResult}
use Rattle.std.specs.Ordering.{nat_cmp}
use Rattle.std.proofs.lemmas.Cmp.{ranked}
use Rattle.bidi_unicode.specs.Rows.{row_value, rows_rise, IsRowOf}

-- the character of a row
abbrev pub key_at : {V : Type 0} → List (ℕ × V) → ℕ → (ℕ × V) → ℕ
key_at rows i default = (get_or rows i default).0

-- the search ended at the character's row, or no row has the character
abbrev pub IsSearched : {V : Type 0} → List (ℕ × V) → ℕ → Result ℕ ℕ → Type 0
IsSearched rows c r = MatchResult r (IsRowOf rows c) (λ i. row_value rows c ≡ None)

module _ {V : Type 0} where
  -- the characters begin at n
  pub key_at-from : (n : ℕ) (rows : List (ℕ × V)) (i : ℕ) (d : ℕ × V) → rows_rise n rows ≡ true → i < length rows → n ≤ key_at rows i d
  key_at-from n [] i d up below = absurd (not-suc-le-zero below)
  key_at-from n (r ∷ rs) zero d up below = grind (arith, nat_tests)
  key_at-from n (r ∷ rs) (suc i) d up below = grind (arith, nat_tests, key_at-from (r.0 + 1) rs i d)

  -- and ascend
  pub key_at-lt : (n : ℕ) (rows : List (ℕ × V)) (i j : ℕ) (d : ℕ × V) → rows_rise n rows ≡ true → i < j → j < length rows → key_at rows i d < key_at rows j d
  key_at-lt n (r ∷ rs) zero (suc j) d up before below = grind (arith, nat_tests, key_at-from (r.0 + 1) rs j d)
  key_at-lt n (r ∷ rs) (suc i) (suc j) d up before below = grind (arith, nat_tests, key_at-lt (r.0 + 1) rs i j d)
  key_at-lt n rows i j d up before below = absurd (omega arith)

  -- the value of the first row that has the character
  pub row_value-at : (rows : List (ℕ × V)) (c i : ℕ) (d : ℕ × V) → i < length rows → key_at rows i d ≡ c → ((k : ℕ) → k < i → key_at rows k d < c) → row_value rows c ≡ Some (get_or rows i d).1
  row_value-at [] c i d below here before = absurd (not-suc-le-zero below)
  row_value-at (r ∷ rs) c zero d below here before = grind (arith, nat_tests, here)
  row_value-at (r ∷ rs) c (suc i) d below here before =
      grind (arith, nat_tests, before 0 (omega arith), row_value-at rs c i d (omega arith) here (λ k less. before (suc k) (omega arith)))

  -- a character that no row has
  pub row_value-none : (rows : List (ℕ × V)) (c : ℕ) → ((i : ℕ) (d : ℕ × V) → i < length rows → key_at rows i d ≡ c → ⊥) → row_value rows c ≡ None
  row_value-none [] c none = refl
  row_value-none (r ∷ rs) c none =
      grind (arith, nat_tests, none 0 r, row_value-none rs c (λ i d below. none (suc i) d (omega arith)))

  -- what a binary search says
  pub searched : (rows : List (ℕ × V)) (c : ℕ) (r : Result ℕ ℕ) → rows_rise 0 rows ≡ true → IsSearchInRange r (length rows) → IsBinarySearchResult (λ row. nat_cmp row.0 c) rows r → IsSearched rows c r
  searched rows c (Ok i) up within equal =
      (within, λ d. grind (arith, ranked _ c _ (sym (equal d)), row_value-at rows c i d, key_at-lt 0 rows))
  searched rows c (Err i) up within parted =
      let points = parted (λ j k d le below. grind (arith, nat_tests, cases_lt j k, key_at-lt 0 rows j k d)) in
      row_value-none rows c (λ k d below same. grind (arith, nat_tests, cases_lt k i, points.0 k d zero-le, points.1 k d))

  -- a row of another character is passed over
  pub row_value-other : (r : ℕ × V) (rs : List (ℕ × V)) (c : ℕ) → c ≢ r.0 → row_value (r ∷ rs) c ≡ row_value rs c
  row_value-other r rs c other = grind (arith, nat_tests)

  -- no row from n on has a character before it
  pub row_value-before : (rows : List (ℕ × V)) (n c : ℕ) → list_all (λ r. nat_le n r.0) rows ≡ true → c < n → row_value rows c ≡ None
  row_value-before [] n c from low = refl
  row_value-before (r ∷ rs) n c from low =
      let parts = and_parts (nat_le n r.0) (list_all (λ row. nat_le n row.0) rs) from in
      row_value-other r rs c (λ e. absurd (omega (arith, leb-true n r.0 parts.0))) ∙ row_value-before rs n c parts.1 low
