-- Places in a text.
use Rattle.bidi_base.proofs.Common.{◌≡◌, ℕ, ◌+◌, ◌<◌, ◌≤◌, Bool, true, List, length, get_or, Some}
use Rattle.bidi_base.proofs.PerUnit as entries
use Rattle.bidi_base.proofs.UnitIndexLemmas as list
use Rattle.bidi_base.proofs.UnitIndexLemmas.{IsLineAt, UnitOf}
use Rattle.bidi_base.proofs.UnitsLemmas as tests
use Rattle.bidi_base.proofs.UnitsLemmas.{IsSameTest}
use Rattle.bidi_base.specs.Texts.{Encoding, Text, text_len, unit_index, is_boundary, IsLine, char_at, char_index, per_unit, per_char, is_per_char, IsPerChar}

module _ {e : Encoding} (text : Text e) where
  pub unit_index-zero : unit_index text 0 ≡ 0
  unit_index-zero = list.unit_index-zero e.len_of text.chars

  pub unit_index-more : (k c : ℕ) → k < length text.chars → unit_index text (k + 1) ≡ unit_index text k + e.len_of (get_or text.chars k c)
  unit_index-more k c within = list.unit_index-more e.len_of text.chars k c within

  pub unit_index-more-le : (k c : ℕ) → k < length text.chars → unit_index text k + e.len_of (get_or text.chars k c) ≤ text_len text
  unit_index-more-le k c within = list.unit_index-more-le e.len_of text.chars k c within

  pub unit_index-le : (k : ℕ) → unit_index text k ≤ text_len text
  unit_index-le k = list.unit_index-le e.len_of text.chars k

  pub unit_index-end : (k : ℕ) → length text.chars ≤ k → unit_index text k ≡ text_len text
  unit_index-end k past = list.unit_index-end e.len_of text.chars k past

  pub unit_index-mono : (i j : ℕ) → i ≤ j → unit_index text i ≤ unit_index text j
  unit_index-mono i j le = list.unit_index-mono e.len_of text.chars i j le

  pub unit_index-lt : (i j : ℕ) → i < j → i < length text.chars → unit_index text i < unit_index text j
  unit_index-lt i j lt within = list.unit_index-lt e.len_of text.chars e.positive i j lt within

  pub unit_index-le-back : (i j : ℕ) → i ≤ length text.chars → unit_index text i ≤ unit_index text j → i ≤ j
  unit_index-le-back i j short le = list.unit_index-le-back e.len_of text.chars e.positive i j short le

  pub is_boundary-unit_index : (k : ℕ) → is_boundary text (unit_index text k) ≡ true
  is_boundary-unit_index k = list.is_boundary-unit_index e.len_of text.chars k

  pub IsLine-unit_indexes : (i j : ℕ) → i ≤ j → IsLine text (unit_index text i) (unit_index text j)
  IsLine-unit_indexes i j le = list.IsLine-unit_indexes e.len_of text.chars i j le

  pub char_index-unit_index : (k : ℕ) → k ≤ length text.chars → char_index text (unit_index text k) ≡ k
  char_index-unit_index k short = list.char_index-unit_index e.len_of text.chars e.positive k short

  pub unit_index-char_index : (u : ℕ) → is_boundary text u ≡ true → unit_index text (char_index text u) ≡ u
  unit_index-char_index u at = list.unit_index-char_index e.len_of e.positive text.chars u at

  pub line_unit_indexes : (start end : ℕ) → IsLine text start end → IsLineAt e.len_of text.chars start end (char_index text start) (char_index text end)
  line_unit_indexes start end line = list.line_unit_indexes e.len_of e.positive text.chars start end line

  pub char_at-unit_index : (k c : ℕ) → k < length text.chars → char_at text (unit_index text k) ≡ Some (get_or text.chars k c, e.len_of (get_or text.chars k c))
  char_at-unit_index k c within = list.char_at-unit_index e.len_of e.positive text.chars k c within

  pub unit_of : (u : ℕ) → u < text_len text → UnitOf e.len_of text.chars u
  unit_of u within = list.unit_of e.len_of text.chars u within

  module _ {X : Type 0} where
    pub length-per_char : (d : X) (units : List X) → length (per_char d text units) ≡ length text.chars
    length-per_char d units = entries.length-per_char d e.len_of text.chars units

    pub get_or-per_unit : (values : List X) (k j c : ℕ) (d : X) → length values ≡ length text.chars → k < length text.chars
        → j < e.len_of (get_or text.chars k c) → get_or (per_unit text values) (unit_index text k + j) d ≡ get_or values k d
    get_or-per_unit values k j c d long fits within = entries.get_or-per_unit e.len_of text.chars values k j c d long fits within

    pub get_or-per_unit-unit_index : (values : List X) (k : ℕ) (d : X) → length values ≡ length text.chars → k < length text.chars
        → get_or (per_unit text values) (unit_index text k) d ≡ get_or values k d
    get_or-per_unit-unit_index values k d long fits = entries.get_or-per_unit-unit_index e.len_of e.positive text.chars values k d long fits

    pub per_unit-from_is_per_char : (eq : X → X → Bool) → IsSameTest eq → (d : X) (units : List X) → is_per_char eq text units ≡ true → units ≡ per_unit text (per_char d text units)
    per_unit-from_is_per_char eq test d units whole = tests.per_unit-from_is_per_char eq test d e.len_of e.positive text.chars units whole

    pub length-from_is_per_char : (eq : X → X → Bool) → IsSameTest eq → (units : List X) → is_per_char eq text units ≡ true → length units ≡ text_len text
    length-from_is_per_char eq test units whole = tests.length-from_is_per_char eq test e.len_of e.positive text.chars units whole

    pub IsPerChar-from_is_per_char : (eq : X → X → Bool) → IsSameTest eq → (units : List X) → is_per_char eq text units ≡ true → IsPerChar text units
    IsPerChar-from_is_per_char eq test units whole = tests.IsPerChar-from_is_per_char eq test e.len_of e.positive text.chars units whole
