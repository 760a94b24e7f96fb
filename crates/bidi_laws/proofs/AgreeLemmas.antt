-- Sequences and level runs read levels at kept characters alone.
use Rattle.bidi_base.proofs.Common.{◌≡◌, ℕ, zero, suc, ◌<◌, true, List, [], ◌∷◌, length, map, Some, refl, arith, inl, inr}
use Rattle.bidi_base.proofs.Common.{filter_agree, class_at, chain, last_or, matching_pdi, is_kept_at, kept_indexes}
use Rattle.bidi_base.proofs.Common.{next_kept, kept_before, level_at, resumed_at, successor, is_first, start_class, end_class, sequence_from, sequences, explicit_levels, get_or-map-range_with_len}
use Rattle.bidi_base.specs.declared.char_data.BidiClass.{BidiClass}
use Rattle.bidi_base.specs.Sequences.{HasExplicitLevels}
use Rattle.bidi_base.proofs.ChainLemmas.{chain-None, IsMaximal-chain}
use Rattle.bidi_laws.proofs.SuccessorLemmas.{next_kept-IsLeast, kept_before-IsGreatest, successor-IsLaterKept, is_kept-pdi}
use Rattle.bidi_laws.proofs.IsolatesLemmas.{matching_pdi-IsLeast, matching_pdi-is_pdi}
use Rattle.bidi_laws.proofs.SequencesLemmas.{IsLinked-successor, places_from, is_first-none, is_first-from_none, AllFirst}
use Rattle.bidi_laws.proofs.PassLemmas.{AreSuccessors, AllFirst-filter}
use Rattle.bidi_base.proofs.Lists.{cases_Option}

module _ (classes : List BidiClass) (levels other : List ℕ) (agree : (p : ℕ) → is_kept_at classes p ≡ true → p < length classes → level_at levels p ≡ level_at other p) where
  next_level : (p q : ℕ) → next_kept classes p ≡ Some q → level_at levels q ≡ level_at other q
  next_level p q e = grind (arith, next_kept-IsLeast)

  before_level : (p q : ℕ) → p < length classes → kept_before classes p ≡ Some q → level_at levels q ≡ level_at other q
  before_level p q within e = grind (arith, kept_before-IsGreatest)

  resumed_at-agree : (p : ℕ) → resumed_at classes levels p ≡ resumed_at classes other p
  unfolding resumed_at
  resumed_at-agree p = elim (cases_Option (matching_pdi classes p)) [
    | inl e ↦ rw e refl
    | inr q ↦ grind (arith, q.1, matching_pdi-IsLeast classes p q.0 q.1, matching_pdi-is_pdi classes p q.0 q.1, is_kept-pdi (class_at classes q.0), before_level q.0, agree q.0)
  ]

  pub successor-agree : (p : ℕ) → is_kept_at classes p ≡ true → p < length classes → successor classes levels p ≡ successor classes other p
  unfolding successor
  successor-agree p kept within = grind (arith, next_level, resumed_at-agree)

  pub is_first-agree : (p : ℕ) → is_first classes levels p ≡ is_first classes other p
  is_first-agree p = grind (arith, is_first-from_none, is_first-none, successor-agree)

  chain-agree : (k p : ℕ) → is_kept_at classes p ≡ true → p < length classes → chain (successor classes levels) k (Some p) ≡ chain (successor classes other) k (Some p)
  chain-agree zero p kept within = refl
  chain-agree (suc k) p kept within = grind (arith, successor-agree p, successor-IsLaterKept classes levels p, chain-agree k, chain-None)

  start_class-agree : (para_level p : ℕ) → is_kept_at classes p ≡ true → p < length classes → start_class para_level classes levels p ≡ start_class para_level classes other p
  unfolding start_class
  start_class-agree para_level p kept within = grind (arith, before_level)

  end_class-agree : (para_level p : ℕ) → is_kept_at classes p ≡ true → p < length classes → end_class para_level classes levels p ≡ end_class para_level classes other p
  unfolding end_class
  end_class-agree para_level p kept within = grind (arith, next_level)

  last_along : (p : ℕ) (ps : List ℕ) → is_kept_at classes p ≡ true → p < length classes → AreSuccessors classes levels (p ∷ ps)
      → (is_kept_at classes (last_or p ps) ≡ true) × (last_or p ps < length classes)
  last_along p [] kept within follows = (kept, within)
  last_along p (q ∷ ps) kept within follows = grind (arith, successor-IsLaterKept classes levels p q, last_along q ps)

  last_kept : (p : ℕ) → is_kept_at classes p ≡ true → p < length classes
      → (is_kept_at classes (last_or p (places_from classes levels p)) ≡ true) × (last_or p (places_from classes levels p) < length classes)
  last_kept p kept within = grind (arith, IsMaximal-chain (length classes) (is_kept_at classes) (successor classes levels) (IsLinked-successor classes levels) p, last_along p)

  sequence_from-agree : (para_level p : ℕ) → is_kept_at classes p ≡ true → p < length classes → sequence_from para_level classes levels p ≡ sequence_from para_level classes other p
  unfolding sequence_from
  sequence_from-agree para_level p kept within = grind (arith, last_kept, start_class-agree, end_class-agree, chain-agree)

  pub sequences-agree : (para_level : ℕ) → sequences para_level classes levels ≡ sequences para_level classes other
  unfolding sequences kept_indexes
  sequences-agree para_level =
      grind (arith, filter_agree, is_first-agree, AllFirst-filter, sequence_from-agree, all_agree)
    where
      all_agree : (ps : List ℕ) → AllFirst classes other ps → map (sequence_from para_level classes levels) ps ≡ map (sequence_from para_level classes other) ps
      all_agree [] h = refl
      all_agree (p ∷ ps) h = grind (arith, sequence_from-agree para_level p, all_agree ps)

-- with the explicit levels at kept characters, the sequences are those of all explicit levels
pub sequences-explicit_levels : (para_level : ℕ) (classes : List BidiClass) (levels : List ℕ) → HasExplicitLevels para_level classes levels
    → sequences para_level classes levels ≡ sequences para_level classes (explicit_levels para_level classes)
unfolding explicit_levels
sequences-explicit_levels para_level classes levels h = grind (arith, sequences-agree, get_or-map-range_with_len)
