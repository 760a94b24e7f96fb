-- The classes that N0 to N2 leave: N0 keeps those that W7 leaves, and after N2 each has a direction.
use Rattle.bidi_base.proofs.Common.{◌≡◌, ℕ, zero, suc, ◌+◌, ◌<◌, ◌≤◌, Bool, true, List, [], ◌∷◌, map, Option, Some, unwrap_or, refl, arith, rules, common_steps}
use Rattle.bidi_base.proofs.Common.{list_all, range_with_len, and_from, or_left, as_direction, has_direction, is_l_or_r, is_ni, is_weak_resolved, is_odd}
use Rattle.bidi_base.proofs.Common.{direction_of, nearest_direction, pair_direction, with_pair, n0_pair, n0, n1_rule, n1_n2, neutral_classes}
use Rattle.bidi_base.specs.declared.char_data.BidiClass.{BidiClass}
use Rattle.bidi_base.specs.declared.char_data.BidiClass.TheVariants.{L, R}
use Rattle.bidi_base.specs.declared.data_source.BidiMatchedOpeningBracket.{BidiMatchedOpeningBracket}
use Rattle.bidi_laws.proofs.ContextLemmas.{list_all-in_context, list_all-get_or}
use Rattle.bidi_base.proofs.Lists.{chosen}

directed : (c : BidiClass) → is_l_or_r c ≡ true → has_direction c ≡ true
directed c h = grind arith

-- the nearest direction, where one more class is passed
pub nearest_direction-more : (d c : BidiClass) (cs : List BidiClass) → nearest_direction d (c ∷ cs) ≡ unwrap_or (as_direction c) (nearest_direction d cs)
nearest_direction-more d c cs = grind arith

-- the nearest direction is L or R
pub nearest_direction-l_or_r : (d : BidiClass) (cs : List BidiClass) → is_l_or_r d ≡ true → is_l_or_r (nearest_direction d cs) ≡ true
nearest_direction-l_or_r d [] h = h
nearest_direction-l_or_r d (c ∷ cs) h = grind (arith, nearest_direction-l_or_r d cs h)

pub direction_of-l_or_r : (level : ℕ) → is_l_or_r (direction_of level) ≡ true
direction_of-l_or_r level = chosen is_l_or_r (is_odd level) R L refl refl

-- what a pair takes is L or R
pub pair_direction-l_or_r : (e sos : BidiClass) (classes : List BidiClass) (pair : ℕ × ℕ) (d : BidiClass) → is_l_or_r e ≡ true
    → is_l_or_r sos ≡ true → pair_direction e sos classes pair ≡ Some d → is_l_or_r d ≡ true
unfolding pair_direction
pair_direction-l_or_r e sos classes pair d h k is = grind (arith, nearest_direction-l_or_r)

list_all-map-range : (p : BidiClass → Bool) (f : ℕ → BidiClass) (low n : ℕ) → ((k : ℕ) → low ≤ k → k < low + n → p (f k) ≡ true) → list_all p (map f (range_with_len low n)) ≡ true
list_all-map-range p f low zero each = refl
list_all-map-range p f low (suc n) each = and_from _ _ (each low (omega arith) (omega arith)) (list_all-map-range p f (low + 1) n (λ k from below. each k (omega arith) (omega arith)))

resolved : (c : BidiClass) → is_l_or_r c ≡ true → is_weak_resolved c ≡ true
resolved c h = or_left (has_direction c) (is_ni c) (directed c h)

-- what each class passes, and each direction that a pair may take, each passes after N0 too
module _ (p : BidiClass → Bool) (e sos : BidiClass) (source_classes : List BidiClass)
    (takes : (classes : List BidiClass) (pair : ℕ × ℕ) (d : BidiClass) → list_all p classes ≡ true → pair_direction e sos classes pair ≡ Some d → p d ≡ true) where
  n0_pair-keeps : (classes : List BidiClass) (pair : ℕ × ℕ) → list_all p classes ≡ true → list_all p (n0_pair e sos source_classes classes pair) ≡ true
  unfolding n0_pair with_pair
  n0_pair-keeps classes pair l = grind (arith, list_all-map-range, list_all-get_or)

  pub n0-keeps : (pairs : List (ℕ × ℕ)) (classes : List BidiClass) → list_all p classes ≡ true → list_all p (n0 e sos source_classes pairs classes) ≡ true
  unfolding n0
  n0-keeps [] classes l = l
  n0-keeps (pair ∷ pairs) classes l = n0-keeps pairs (n0_pair e sos source_classes classes pair) (n0_pair-keeps classes pair l)

pub n0-resolved : (e sos : BidiClass) (source_classes : List BidiClass) (pairs : List (ℕ × ℕ)) (classes : List BidiClass) → is_l_or_r e ≡ true → is_l_or_r sos ≡ true → list_all is_weak_resolved classes ≡ true
    → list_all is_weak_resolved (n0 e sos source_classes pairs classes) ≡ true
n0-resolved e sos source_classes pairs classes h k l = grind (arith, n0-keeps, resolved, pair_direction-l_or_r)

n1_rule-directed : (e sos eos : BidiClass) → is_l_or_r e ≡ true → is_l_or_r sos ≡ true → (before : List BidiClass) (c : BidiClass) (after : List BidiClass) → is_weak_resolved c ≡ true
    → has_direction (n1_rule e sos eos before c after) ≡ true
n1_rule-directed e sos eos h k before c after good = grind (arith, common_steps, nearest_direction-l_or_r, directed)

pub n1_n2-directed : (e sos eos : BidiClass) (classes : List BidiClass) → is_l_or_r e ≡ true → is_l_or_r sos ≡ true
    → list_all is_weak_resolved classes ≡ true → list_all has_direction (n1_n2 e sos eos classes) ≡ true
n1_n2-directed e sos eos classes h k l = search (rules, list_all-in_context, n1_rule-directed)

pub neutral_classes-directed : (level : ℕ) (sos eos : BidiClass) (source_classes : List BidiClass) (brackets : List (Option BidiMatchedOpeningBracket)) (classes : List BidiClass)
    → is_l_or_r sos ≡ true → list_all is_weak_resolved classes ≡ true
    → list_all has_direction (neutral_classes level sos eos source_classes brackets classes) ≡ true
unfolding neutral_classes
neutral_classes-directed level sos eos source_classes brackets classes h k = grind (arith, n1_n2-directed, n0-resolved)
