-- Isolates: a matching PDI is a PDI, and what an initiator is not.
use Rattle.bidi_base.proofs.Common.{◌≡◌, ◌↔◌, ℕ, ◌+◌, true, false, List, length, Option, Some, arith, rules, is_closed_at, is_isolate_initiator_at, is_pdi_at, matching_pdi, level_by, direction_by}
use Rattle.bidi_base.specs.declared.char_data.BidiClass.{BidiClass}
use Rattle.bidi_base.specs.declared.char_data.Direction.TheVariants.{Rtl}
use Rattle.bidi_base.proofs.PlacesLemmas.{IsLeast}
use Rattle.bidi_laws.proofs.MatchingLemmas.{match_of-IsLeast, match_of-closes}

pub initiators_apart : (classes : List BidiClass) (k : ℕ) → is_isolate_initiator_at classes k ≡ true → is_pdi_at classes k ≡ false
initiators_apart classes k e = grind arith

pub pdis_apart : (classes : List BidiClass) (k : ℕ) → is_pdi_at classes k ≡ true → is_isolate_initiator_at classes k ≡ false
pdis_apart classes k e = grind arith

-- a matching PDI comes later, stands in the text, and is a PDI
pub matching_pdi-IsLeast : (classes : List BidiClass) (q p : ℕ) → matching_pdi classes q ≡ Some p → IsLeast (is_closed_at (is_isolate_initiator_at classes) (is_pdi_at classes) q) (q + 1) (length classes) p
unfolding matching_pdi
matching_pdi-IsLeast classes q p e = search (rules, match_of-IsLeast)

pub matching_pdi-is_pdi : (classes : List BidiClass) (q p : ℕ) → matching_pdi classes q ≡ Some p → is_pdi_at classes p ≡ true
unfolding matching_pdi
matching_pdi-is_pdi classes q p e = grind (arith, match_of-closes)

-- the base direction is right to left exactly if the paragraph level is 1
pub direction_by-Rtl : (deciding : Option BidiClass) → (direction_by deciding ≡ Rtl) ↔ (level_by deciding ≡ 1)
direction_by-Rtl deciding = grind arith
