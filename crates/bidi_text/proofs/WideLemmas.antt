-- A list of characters that are each four code units long.
use Rattle.bidi_base.proofs.Common.{◌≡◌, ℕ, ◌+◌, ◌*◌, ◌/◌, ◌-◌, ◌<◌, ◌≤◌, true, List, [], ◌∷◌, length, take, drop, get_or, map, Some, None, inl, inr, refl, sym, ap, ◌∙◌}
use Rattle.bidi_base.proofs.Common.{arith, slice_range, length-take, take-map, drop-map, sum_by-cons, cases_Bool, text_len, unit_index, char_at, char_index, is_boundary, subrange, IsLine}
use Rattle.bidi_base.proofs.TextLemmas.{char_at-end, char_at-None}
use Rattle.bidi_base.proofs.UnitIndexLemmas.{char_at-unit_index, line_unit_indexes, unit_index-char_index, char_index-le}
use Rattle.bidi_text.specs.WideText.{four_units, four_units-positive}

pub text_len-wide : (cs : List ℕ) → text_len four_units cs ≡ 4 * length cs
text_len-wide [] = refl
text_len-wide (c ∷ cs) = omega (arith, sum_by-cons four_units c cs, text_len-wide cs)

unit_index-wide : (cs : List ℕ) (k : ℕ) → k ≤ length cs → unit_index four_units cs k ≡ 4 * k
unit_index-wide cs k short = text_len-wide (take k cs) ∙ omega (arith, length-take k cs)

pub char_at-wide : (cs : List ℕ) (k c : ℕ) → k < length cs → char_at four_units cs (4 * k) ≡ Some (get_or cs k c, 4)
char_at-wide cs k c within = ap (char_at four_units cs) (sym (unit_index-wide cs k (omega arith))) ∙ char_at-unit_index four_units four_units-positive cs k c within

pub char_at-past : (cs : List ℕ) (k : ℕ) → length cs ≤ k → char_at four_units cs (4 * k) ≡ None
char_at-past cs k past = char_at-end four_units four_units-positive cs (4 * k) (omega (arith, text_len-wide cs))

boundary-wide : (cs : List ℕ) (u : ℕ) → is_boundary four_units cs u ≡ true → u ≡ 4 * char_index four_units cs u
boundary-wide cs u at = sym (unit_index-char_index four_units four_units-positive cs u at) ∙ unit_index-wide cs (char_index four_units cs u) (char_index-le four_units cs u)

pub char_at-inside : (cs : List ℕ) (u k j : ℕ) → u ≡ 4 * k + j → 0 < j → j < 4 → char_at four_units cs u ≡ None
char_at-inside cs u k j is low high = elim (cases_Bool (is_boundary four_units cs u)) [
  | inl at ↦ absurd (omega (arith, boundary-wide cs u at))
  | inr inside ↦ char_at-None four_units four_units-positive cs u inside
]

pub end-within : (cs : List ℕ) (u : ℕ) → is_boundary four_units cs u ≡ true → u / 4 ≤ length cs
end-within cs u at = omega (arith, boundary-wide cs u at, char_index-le four_units cs u)

pub subrange-wide : (f : ℕ → ℕ) (ns : List ℕ) (start end : ℕ) → IsLine four_units (map f ns) start end
    → subrange four_units (map f ns) start end ≡ map f (slice_range ns (start / 4) (end / 4))
subrange-wide f ns start end line =
    let cs = map f ns in
    let w = line_unit_indexes four_units four_units-positive cs start end line in
    let i = char_index four_units cs start in
    let j = char_index four_units cs end in
    let first : start / 4 ≡ i = omega (arith, boundary-wide cs start line.begins) in
    let last : end / 4 ≡ j = omega (arith, boundary-wide cs end line.ends) in
    let whole : slice_range cs i j ≡ map f (slice_range ns i j) = ap (take (j - i)) (drop-map f i ns) ∙ take-map f (j - i) (drop i ns) in
    whole ∙ ap (λ k. map f (slice_range ns k j)) (sym first) ∙ ap (λ k. map f (slice_range ns (start / 4) k)) (sym last)
