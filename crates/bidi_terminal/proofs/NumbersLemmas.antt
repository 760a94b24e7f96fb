-- What `parse` returns for a word of digits.
use Rattle.bidi_base.proofs.Common.{◌≡◌, ℕ, ◌<◌, ◌≤◌, ◌^◌, List, length, Some, None, Result, Ok, Err, Bool, true, nat_le, ◌&&◌, if◌then◌else◌, sym, arith, rules, list_all, result_ok, nat_tests}
use Rattle.bidi_base.proofs.Common.{is_ascii_digit, digits_value, IsNumeralModel, numerals_by_value, digits_value_short}
use Rattle.std.specs.Result.{OkIff}
use Rattle.std.specs.Str.Parse.{ParsesUnsigned}
use Rattle.std.proofs.lemmas.Str.Parse.{parse_digits}
use Rattle.bidi_terminal.specs.Numbers.{number_of}

digits : IsNumeralModel (λ word. list_all is_ascii_digit word ≡ true) (digits_value 10)
digits = numerals_by_value _ (search rules)

tested : {A : Type 0} (size : ℕ) (all : Bool) (number : A) → 0 < size → size ≤ 3 → all ≡ true → (if nat_le 1 size && nat_le size 3 && all then Some number else None) ≡ Some number
tested size all number some short right = grind (arith, nat_tests)

tested_empty : {A : Type 0} (size : ℕ) (all : Bool) (number : A) → ¬ (0 < size) → (if nat_le 1 size && nat_le size 3 && all then Some number else None) ≡ None
tested_empty size all number none = grind (arith, nat_tests)

value_of : {E : Type 0} (word : List ℕ) (result : Result ℕ E) → list_all is_ascii_digit word ≡ true → length word ≤ 3
    → digits_value 10 word < 10 ^ 3 → OkIff result ((0 < length word) × (digits_value 10 word < 2 ^ 16)) (digits_value 10 word)
    → result_ok result ≡ number_of word
value_of word (Ok number) all short small parsed = rw parsed.1 (sym (tested (length word) _ (digits_value 10 word) parsed.0.0 short all))
value_of word (Err fault) all short small parsed = sym (tested_empty (length word) _ (digits_value 10 word) (λ some. parsed (some, omega arith)))

-- a word of at most three digits is rejected only if it is empty
pub parse_short : {E : Type 0} (word : List ℕ) (result : Result ℕ E) → ParsesUnsigned 16 10 word result → list_all is_ascii_digit word ≡ true → length word ≤ 3 → result_ok result ≡ number_of word
parse_short word result parsed all short = value_of word result all short (digits_value_short digits word 3 all short) (parse_digits digits 16 word result parsed all)
