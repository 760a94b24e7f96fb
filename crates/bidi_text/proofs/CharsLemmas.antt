-- A list of characters as a text: each is one unit long, so a place is an index.
use Rattle.bidi_base.proofs.Common.{◌≡◌, ℕ, ◌<◌, ◌≤◌, true, List, length, get_or, Some, None, sym, ◌∙◌, ap, arith, slice_range, char_at, subrange, one_unit, is_boundary}
use Rattle.bidi_base.proofs.TextLemmas.{HasUnits, char_at-end, is_boundary-le}
use Rattle.bidi_base.proofs.UnitIndexLemmas.{char_at-unit_index, unit_index-one_unit, text_len-one_unit, subrange-unit_indexes}

has_units : HasUnits one_unit
has_units c = omega arith

pub is_boundary-within : (cs : List ℕ) (u : ℕ) → is_boundary one_unit cs u ≡ true → u ≤ length cs
is_boundary-within cs u e = omega (arith, is_boundary-le one_unit cs u e, text_len-one_unit cs)

pub char_at-one_unit : (cs : List ℕ) (k : ℕ) → k < length cs → char_at one_unit cs k ≡ Some (get_or cs k 0, 1)
char_at-one_unit cs k within = ap (char_at one_unit cs) (sym (unit_index-one_unit cs k (omega arith))) ∙ char_at-unit_index one_unit has_units cs k 0 within

pub char_at-past : (cs : List ℕ) (k : ℕ) → length cs ≤ k → char_at one_unit cs k ≡ None
char_at-past cs k past = char_at-end one_unit has_units cs k (omega (arith, text_len-one_unit cs))

pub subrange-one_unit : (cs : List ℕ) (start end : ℕ) → start ≤ end → end ≤ length cs → subrange one_unit cs start end ≡ slice_range cs start end
subrange-one_unit cs start end ordered within =
    cc (unit_index-one_unit cs start (omega arith), unit_index-one_unit cs end within, subrange-unit_indexes one_unit cs has_units start end (omega arith) within)
