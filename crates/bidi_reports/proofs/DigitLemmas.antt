-- What a search over all indexes finds, and the value of a few digits.
use Rattle.bidi_base.proofs.Common.{◌≡◌, ℕ, ◌+◌, ◌-◌, ◌*◌, ◌<◌, ◌≤◌, Bool, true, false, List, length, get_or, take, find, Some, None, arith, rules, list_all, list_all_at, range_with_len, sym}
use Rattle.bidi_base.proofs.Common.{is_ascii_digit, digits_value, IsNumeralModel, numerals_by_value, digits_value_short}
use Rattle.std.specs.Char.{digit_value}
use Rattle.std.proofs.lemmas.Str.Parse.{digits_value-take-le}
use Rattle.std.proofs.lemmas.Int.Digits.{digits_value_more}
use Rattle.std.proofs.lemmas.Str.{digit_value_digit}
use Rattle.bidi_base.proofs.PlacesLemmas.{IsLeast, find-between-is, find-between-is_None}

pub found : (test : ℕ → Bool) (n p : ℕ) → p < n → test p ≡ true → ((k : ℕ) → k < p → test k ≡ false) → Some p ≡ find test (range_with_len 0 n)
found test n p below passes first =
    let e : n - 0 ≡ n = omega arith in
    let least : IsLeast test 0 n p = record { from = omega arith; below = below; passes = passes; first = λ k _ h. first k h } in
    sym (rw e at (find-between-is test 0 n p least))

pub not_found : (test : ℕ → Bool) (n : ℕ) → ((k : ℕ) → k < n → test k ≡ false) → None ≡ find test (range_with_len 0 n)
not_found test n none =
    let e : n - 0 ≡ n = omega arith in
    sym (rw e at (find-between-is_None test 0 n (λ k _ h. none k h)))

digits : IsNumeralModel (λ word. list_all is_ascii_digit word ≡ true) (digits_value 10)
digits = numerals_by_value _ (search rules)

-- the first few of at most nine digits
pub value-few : (word : List ℕ) (i : ℕ) → list_all is_ascii_digit word ≡ true → length word ≤ 9 → digits_value 10 (take i word) < 1000000000
value-few word i all short =
    let small : digits_value 10 word < 1000000000 = digits_value_short digits word 9 all short in
    omega (arith, digits_value-take-le 10 word i (omega arith))

is_digit-at : (word : List ℕ) (i : ℕ) → list_all is_ascii_digit word ≡ true → i < length word → is_ascii_digit (get_or word i 0) ≡ true
is_digit-at word i all within = grind (arith, list_all_at is_ascii_digit word i 0 within)

digit_value-digit : (c : ℕ) → is_ascii_digit c ≡ true → digit_value c ≡ c - 48
digit_value-digit c digit = grind (arith, digit_value_digit c)

-- one digit more
pub value-more : (word : List ℕ) (i : ℕ) → list_all is_ascii_digit word ≡ true → i < length word → digits_value 10 (take (i + 1) word) ≡ digits_value 10 (take i word) * 10 + (get_or word i 0 - 48)
value-more word i all within = grind (arith, digits_value_more 10 word i within, digit_value-digit (get_or word i 0) (is_digit-at word i all within))
