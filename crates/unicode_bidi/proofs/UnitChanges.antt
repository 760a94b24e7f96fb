-- Where the entries of two adjacent code units differ, a character begins, if each character has one entry.
use Rattle.bidi_base.proofs.Common.{◌≡◌, ◌≢◌, ℕ, ◌+◌, ◌-◌, ◌<◌, true, List, get_or, inl, inr, cases_lt, ap, ◌∙◌, arith, text_len, unit_index, is_boundary, IsPerChar}
use Rattle.bidi_base.proofs.PerUnit.{get_or-per_unit}
use Rattle.bidi_base.proofs.UnitIndexLemmas.{is_boundary-unit_index, unit_of}

pub boundary-at_change : {X : Type 0} (len_of : ℕ → ℕ) (chars : List ℕ) (units : List X) → IsPerChar len_of chars units
    → (u v : ℕ) (d : X) → v + 1 ≡ u → u < text_len len_of chars → get_or units v d ≢ get_or units u d → is_boundary len_of chars u ≡ true
boundary-at_change len_of chars units w u v d next within differ =
    let at = unit_of len_of chars u within in
    elim (cases_lt 0 at.offset) [
      | inl inside ↦
          let place_u : u ≡ unit_index len_of chars at.index + at.offset = at.at_place in
          let place_v : v ≡ unit_index len_of chars at.index + (at.offset - 1) = omega arith in
          let here = get_or-per_unit len_of chars w.0 at.index at.offset 0 d w.1 at.within at.below in
          let before = get_or-per_unit len_of chars w.0 at.index (at.offset - 1) 0 d w.1 at.within (omega (arith, at.below)) in
          let same : get_or units v d ≡ get_or units u d = cc (place_u, place_v, here, before, w.2) in
          absurd (differ same)
      | inr first ↦
          let place : u ≡ unit_index len_of chars at.index = omega (arith, at.at_place) in
          ap (is_boundary len_of chars) place ∙ is_boundary-unit_index len_of chars at.index
    ]
