-- The brackets of a line, gathered unit by unit: those units at which no character begins have none, nor have those of
-- another class than ON.
use Rattle.bidi_base.proofs.Common.{◌≡◌, ℕ, zero, suc, ◌+◌, ◌-◌, ◌<◌, ◌≤◌, false, List, [], ◌∷◌, ◌++◌, length, get_or, None, refl, ap, ◌∙◌, arith, append-nil, range_with_len, flat_map-append}
use Rattle.bidi_base.proofs.Common.{same_class, between, class_at, Source, char_at, char_index, unit_index, IsLine, kept_in_place, flat_map}
use Rattle.bidi_base.specs.declared.brackets.Bracket.{Bracket}
use Rattle.bidi_base.specs.declared.char_data.BidiClass.{BidiClass}
use Rattle.bidi_base.specs.declared.char_data.BidiClass.TheVariants.{ON}
use Rattle.bidi_base.proofs.UnitIndexLemmas.{char_at-unit_index, line_unit_indexes, unit_index-mono, unit_index-more}
use Rattle.bidi_base.proofs.TextLemmas.{HasUnits}
use Rattle.bidi_rules.specs.NeutralPass.{kept_among, placed_bracket, placed_brackets, unit_bracket, unit_brackets}
use Rattle.bidi_rules.proofs.KeptRuns.{kept_so_far-end}
use Rattle.bidi_explicit.proofs.PassOverText.{char_at-inside}
use Rattle.bidi_explicit.proofs.WalkLemmas.{between-first}
use Rattle.bidi_explicit.proofs.Marks.{between-append}

module _ (len_of : ℕ → ℕ) (chars : List ℕ) (source : Source) (classes : List BidiClass) where
  abbrev at_unit : ℕ → List Bracket
  at_unit u = unit_bracket len_of chars source classes u

  -- a unit of another class than ON
  plain_unit : (u : ℕ) → same_class ON (class_at classes u) ≡ false → at_unit u ≡ []
  plain_unit u h = grind arith

  none_in : (low n : ℕ) → ((u : ℕ) → low ≤ u → u < low + n → at_unit u ≡ []) → flat_map at_unit (range_with_len low n) ≡ []
  none_in low zero h = refl
  none_in low (suc n) h = simp (h low (omega arith) (omega arith), none_in (low + 1) n (λ u a b. h u (omega arith) (omega arith)))

  pub unit_brackets-none : (low high : ℕ) → ((u : ℕ) → low ≤ u → u < high → same_class ON (class_at classes u) ≡ false) → unit_brackets len_of chars source classes low high ≡ []
  unit_brackets-none low high h = none_in low (high - low) (λ u a b. plain_unit u (h u a (omega arith)))

  pub unit_brackets-parts : (low mid high : ℕ) → low ≤ mid → mid ≤ high
      → unit_brackets len_of chars source classes low high ≡ unit_brackets len_of chars source classes low mid ++ unit_brackets len_of chars source classes mid high
  unit_brackets-parts low mid high a b = ap (flat_map at_unit) (between-append low mid high a b) ∙ flat_map-append at_unit (between low mid) (between mid high)

  -- one more unit, and those after it that have none
  pub unit_brackets-more : (low at next : ℕ) → low ≤ at → at < next → ((u : ℕ) → at + 1 ≤ u → u < next → same_class ON (class_at classes u) ≡ false)
      → unit_brackets len_of chars source classes low next ≡ unit_brackets len_of chars source classes low at ++ at_unit at
  unit_brackets-more low at next a b none =
      simp (unit_brackets-parts low at next a (omega arith), between-first at next b, unit_brackets-none (at + 1) next none, append-nil)

  module _ (h : HasUnits len_of) where
    -- no character begins within another one
    within_none : (k u : ℕ) → k < length chars → unit_index len_of chars k < u → u < unit_index len_of chars (k + 1) → char_at len_of chars u ≡ None
    within_none k u fits from below = grind (
      arith,
      char_at-inside len_of h chars k (u - unit_index len_of chars k),
      unit_index-more len_of chars k 0,
    )

    -- the units of a character
    one_char : (k : ℕ) → k < length chars → unit_brackets len_of chars source classes (unit_index len_of chars k) (unit_index len_of chars (k + 1)) ≡ placed_bracket len_of chars source classes k
    one_char k fits =
        let more = unit_index-more len_of chars k 0 fits in
        let some = h (get_or chars k 0) in
        let first = unit_index len_of chars k in
        let last = unit_index len_of chars (k + 1) in
        simp (between-first first last (omega arith), none_in (first + 1) (last - (first + 1)) (λ u a b. simp (within_none k u fits (omega arith) (omega arith))), append-nil, char_at-unit_index len_of h chars k 0 fits)

    placed-first : (i : ℕ) (ks : List ℕ)
        → placed_brackets len_of chars source classes (kept_among len_of chars classes (i ∷ ks)) ≡ placed_bracket len_of chars source classes i ++ placed_brackets len_of chars source classes (kept_among len_of chars classes ks)
    placed-first i ks = grind arith

    some_chars : (i n : ℕ) → i + n ≤ length chars
        → unit_brackets len_of chars source classes (unit_index len_of chars i) (unit_index len_of chars (i + n)) ≡ placed_brackets len_of chars source classes (kept_among len_of chars classes (range_with_len i n))
    some_chars i zero fits = grind arith
    some_chars i (suc n) fits =
        grind (arith, unit_brackets-parts (unit_index len_of chars i) (unit_index len_of chars (i + 1)) (unit_index len_of chars (i + 1 + n)), unit_index-mono, one_char i, some_chars (i + 1) n, placed-first i (range_with_len (i + 1) n))

    -- those of a line
    pub unit_brackets-line : (start end : ℕ) → IsLine len_of chars start end
        → unit_brackets len_of chars source classes start end ≡ placed_brackets len_of chars source classes (kept_in_place len_of chars classes ((start, end) ∷ []))
    unit_brackets-line start end line =
        let i = char_index len_of chars start in
        let j = char_index len_of chars end in
        let w = line_unit_indexes len_of h chars start end line in
        let count : i + (j - i) ≡ j = omega (arith, w.ordered) in
        grind (arith, some_chars i (j - i), kept_so_far-end len_of chars classes start end (j - i))
