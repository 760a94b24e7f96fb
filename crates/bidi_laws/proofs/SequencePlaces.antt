-- Where the characters of sequences stand: each is kept, no two sequences share one, and none stands twice. What their
-- levels and ends are.
use Rattle.bidi_base.proofs.Common.{◌≡◌, ℕ, zero, suc, ◌+◌, ◌<◌, ◌≤◌, Bool, true, cond, eqb, List, [], ◌∷◌, length, get_or, take, count_by, arith, filter, range_with_len, length-map, get_or-map}
use Rattle.bidi_base.proofs.Common.{sum_by-cons, sum_by-append, sum_by-IsPermutation, RunSequence, is_kept_at, kept_indexes, is_first, sequence_from, sequences, flat_map}
use Rattle.bidi_base.specs.declared.char_data.BidiClass.{BidiClass}
use Rattle.bidi_laws.proofs.SequencesLemmas.{IsPermutation-sequences}
use Rattle.bidi_laws.proofs.LevelTableLemmas.{count_at-range, count_at-in}

-- how often p stands in a list of places
abbrev pub times_in : List ℕ → ℕ → ℕ
times_in ps p = count_by (λ q. eqb q p) ps

-- what is in a part of a range that was kept
pub times_in-kept : (keep : ℕ → Bool) (p low m : ℕ) → 0 < times_in (filter keep (range_with_len low m)) p → (keep p ≡ true) × (p < low + m)
times_in-kept keep p low zero there = absurd (omega arith)
times_in-kept keep p low (suc m) there = grind (arith, sum_by-cons, times_in-kept keep p (low + 1) m)

-- in joined lists a place stands as often as in the parts: in some first ones, and in the one after them
pub times_in-parts : {X : Type 0} (f : X → List ℕ) (xs : List X) (k : ℕ) (d : X) (p : ℕ) → k < length xs
    → times_in (flat_map f (take k xs)) p + times_in (f (get_or xs k d)) p ≤ times_in (flat_map f xs) p
times_in-parts f [] k d p within = absurd (omega arith)
times_in-parts f (x ∷ xs) zero d p within = omega (arith, sum_by-append (λ q. cond (eqb q p) 1 0) (f x) (flat_map f xs))
times_in-parts f (x ∷ xs) (suc k) d p within = grind (arith, times_in-parts f xs k d p, sum_by-append)

-- the places of some sequences
abbrev pub places_of : List RunSequence → List ℕ
places_of seqs = flat_map (λ (s : RunSequence). s.places) seqs

module _ (para_level : ℕ) (classes : List BidiClass) (levels : List ℕ) where
  times_in-sequences : (p : ℕ) → times_in (places_of (sequences para_level classes levels)) p ≡ times_in (kept_indexes classes) p
  times_in-sequences p = sum_by-IsPermutation (λ q. cond (eqb q p) 1 0) (kept_indexes classes) (places_of (sequences para_level classes levels)) (IsPermutation-sequences classes levels para_level)

  -- no place stands in sequences twice
  pub sequences-once : (p : ℕ) → times_in (places_of (sequences para_level classes levels)) p ≤ 1
  unfolding kept_indexes
  sequences-once p = omega (arith, times_in-sequences p, count_at-range (is_kept_at classes) p 0 (length classes))

  -- and each is that of a kept character
  pub sequences-kept : (p : ℕ) → 0 < times_in (places_of (sequences para_level classes levels)) p → (is_kept_at classes p ≡ true) × (p < length classes)
  unfolding kept_indexes
  sequences-kept p there = grind (arith, times_in-kept (is_kept_at classes) p 0 (length classes), times_in-sequences p)

  -- each kept character stands in one
  pub sequences-all : (p : ℕ) → is_kept_at classes p ≡ true → p < length classes → 0 < times_in (places_of (sequences para_level classes levels)) p
  unfolding kept_indexes
  sequences-all p kept within = omega (arith, times_in-sequences p, count_at-in (is_kept_at classes) p 0 (length classes) (omega arith) (omega arith) kept)

  -- of the k-th sequence
  module _ (k : ℕ) (d : RunSequence) (within : k < length (sequences para_level classes levels)) where
    pub sequence-kept : (p : ℕ) → 0 < times_in (get_or (sequences para_level classes levels) k d).places p → (is_kept_at classes p ≡ true) × (p < length classes)
    sequence-kept p there =
        sequences-kept p (omega (arith, times_in-parts (λ (s : RunSequence). s.places) (sequences para_level classes levels) k d p within))

    -- it goes on from some character
    pub sequence-begun : (first : ℕ) × (get_or (sequences para_level classes levels) k d ≡ sequence_from para_level classes levels first)
    unfolding sequences
    sequence-begun =
        let starts : List ℕ = filter (is_first classes levels) (kept_indexes classes) in
        let inside : k < length starts = omega (arith, within, length-map starts (sequence_from para_level classes levels)) in
        (get_or starts k 0, get_or-map (sequence_from para_level classes levels) starts k 0 d inside)

    pub sequence-not_empty : 0 < length (get_or (sequences para_level classes levels) k d).places
    unfolding sequences sequence_from kept_indexes
    sequence-not_empty = grind (arith, sequence-begun)
