-- Isolating run sequences: each kept character stands in exactly one, once.
use Rattle.bidi_base.proofs.Common.{◌≡◌, ℕ, ◌<◌, true, false, List, [], ◌∷◌, length, Some, refl, arith, filter, IsPermutation, filter-append, flat_map-map, holds_number, chain, RunSequence}
use Rattle.bidi_base.proofs.Common.{is_kept_at, kept_indexes, successor, is_first, sequence_from, sequences, flat_map}
use Rattle.bidi_base.specs.declared.char_data.BidiClass.{BidiClass}
use Rattle.bidi_base.proofs.ChainLemmas.{holds_number-from, IsLinked, none_in_range, fails_in_range, IsPermutation-chains, filter_chain_from}
use Rattle.bidi_laws.proofs.PermutationLemmas.{IsPermutation-filter}
use Rattle.bidi_laws.proofs.SuccessorLemmas.{successor-IsLaterKept, successor-injective}

pub IsLinked-successor : (classes : List BidiClass) (levels : List ℕ) → IsLinked (length classes) (is_kept_at classes) (successor classes levels)
IsLinked-successor classes levels = record {
  later = λ p q kept e. (successor-IsLaterKept classes levels p q e).later;
  within = λ p q kept e. (successor-IsLaterKept classes levels p q e).within;
  keeps = λ p q kept e. (successor-IsLaterKept classes levels p q e).kept;
  one = λ p r q kept_p kept_r e f. successor-injective classes levels p r q kept_p kept_r e f;
}

module _ (classes : List BidiClass) (levels : List ℕ) where
  -- the chain of successors from a character
  abbrev pub places_from : ℕ → List ℕ
  places_from p = chain (successor classes levels) (length classes) (Some p)

  -- the first characters are those that are no successor
  pub is_first-none : (q : ℕ) → is_first classes levels q ≡ true → (p : ℕ) → is_kept_at classes p ≡ true → p < length classes → successor classes levels p ≡ Some q → ⊥
  unfolding is_first kept_indexes
  is_first-none q first p kept within e =
      grind (arith, fails_in_range (λ r. holds_number (successor classes levels r) q) (is_kept_at classes) 0 (length classes) p, holds_number-from (successor classes levels p) q e)

  pub is_first-from_none : (q : ℕ) → ((p : ℕ) → is_kept_at classes p ≡ true → p < length classes → successor classes levels p ≡ Some q → ⊥) → is_first classes levels q ≡ true
  unfolding is_first kept_indexes
  is_first-from_none q none = grind (arith, none_in_range)

  pub is_first-successor : (p q : ℕ) → is_kept_at classes p ≡ true → p < length classes → successor classes levels p ≡ Some q → is_first classes levels q ≡ false
  is_first-successor p q kept within e = grind (arith, is_first-none)

  -- the places of all sequences are the kept places, each once
  pub sequences-places : (para_level : ℕ) → flat_map (λ (s : RunSequence). s.places) (sequences para_level classes levels) ≡ flat_map places_from (filter (is_first classes levels) (kept_indexes classes))
  unfolding sequences sequence_from
  sequences-places para_level = grind (arith, flat_map-map)

  pub IsPermutation-places : IsPermutation (kept_indexes classes) (flat_map places_from (filter (is_first classes levels) (kept_indexes classes)))
  unfolding kept_indexes is_first
  IsPermutation-places = IsPermutation-chains (length classes) (is_kept_at classes) (successor classes levels) (IsLinked-successor classes levels) 0 (length classes) (omega arith)

  pub IsPermutation-sequences : (para_level : ℕ) → IsPermutation (kept_indexes classes) (flat_map (λ (s : RunSequence). s.places) (sequences para_level classes levels))
  IsPermutation-sequences para_level = rw (sequences-places para_level) IsPermutation-places

  -- some first characters
  abbrev pub AllFirst : List ℕ → Type 0
  AllFirst [] = Unit {0}
  AllFirst (p ∷ ps) = (is_kept_at classes p ≡ true) × (p < length classes) × (is_first classes levels p ≡ true) × AllFirst ps

  first_of_chains : (ps : List ℕ) → AllFirst ps → filter (is_first classes levels) (flat_map places_from ps) ≡ ps
  first_of_chains [] h = refl
  first_of_chains (p ∷ ps) h =
      let here = filter_chain_from (length classes) (is_kept_at classes) (successor classes levels) (IsLinked-successor classes levels) (is_first classes levels) is_first-successor p h.0 h.1 h.2 in
      simp (filter-append, here, first_of_chains ps h.3)

  -- first characters whose chains hold each kept character once are all the first characters
  pub IsPermutation-first : (ps : List ℕ) → AllFirst ps → IsPermutation (kept_indexes classes) (flat_map places_from ps) → IsPermutation (filter (is_first classes levels) (kept_indexes classes)) ps
  IsPermutation-first ps h shared = rw (first_of_chains ps h) at (IsPermutation-filter (is_first classes levels) (kept_indexes classes) (flat_map places_from ps) shared)
