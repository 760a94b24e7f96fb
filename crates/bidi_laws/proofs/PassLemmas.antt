-- A pass that begins sequences and lets them go on: once each kept character stands in one of them, once, they are the
-- isolating run sequences.
use Rattle.bidi_base.proofs.Common.{◌≡◌, ℕ, zero, suc, ◌+◌, ◌<◌, ◌≤◌, Bool, true, not, cond, List, [], ◌∷◌, ◌++◌, length, map, get_or, set, count_by, append-nil, append_assoc, Some, None, refl}
use Rattle.bidi_base.proofs.Common.{sym, arith, filter, range_with_len, sum_by, IsPermutation, sum_by-cons, sum_by-append, IsPermutation-trans, IsPermutation-append_left}
use Rattle.bidi_base.proofs.Common.{IsPermutation-append_right, IsPermutation-append_comm, sum_by-IsPermutation, last_or, RunSequence, is_kept_at, kept_indexes, successor, is_first, with_ends}
use Rattle.bidi_base.proofs.Common.{sequence_from, sequences, flat_map-append, flat_map-map, filter-append, flat_map, is_some}
use Rattle.bidi_base.specs.declared.char_data.BidiClass.{BidiClass}
use Rattle.bidi_base.proofs.ChainLemmas.{range_with_len-append, Follows, Follows-chain, Follows-join, IsMaximal-chain}
use Rattle.bidi_laws.proofs.SuccessorLemmas.{successor-IsLaterKept}
use Rattle.bidi_laws.proofs.PermutationLemmas.{count_of-IsPermutation, Ascends, Ascends-filter, Ascends-range, same_ascending}
use Rattle.bidi_laws.proofs.SequencesLemmas.{IsPermutation-first, IsLinked-successor, places_from, is_first-successor, IsPermutation-places, AllFirst}

module _ (classes : List BidiClass) (levels : List ℕ) where
  -- each character is the successor of the one before it
  abbrev pub AreSuccessors : List ℕ → Type 0
  AreSuccessors = Follows (length classes) (is_kept_at classes) (successor classes levels) (IsLinked-successor classes levels)

  -- a sequence from its first character on, perhaps not yet to its end
  pub record IsBegun (p : ℕ) (ps : List ℕ) : Type 0 where
    pub kept : is_kept_at classes p ≡ true
    pub within : p < length classes
    pub first : is_first classes levels p ≡ true
    pub follows : AreSuccessors (p ∷ ps)

  abbrev pub IsBegunList : List ℕ → Type 0
  IsBegunList [] = ⊥
  IsBegunList (p ∷ ps) = IsBegun p ps

  abbrev pub AllBegun : List (List ℕ) → Type 0
  AllBegun [] = Unit {0}
  AllBegun (xs ∷ out) = IsBegunList xs × AllBegun out

  -- all characters of some lists
  abbrev pub all_of : List (List ℕ) → List ℕ
  all_of out = flat_map (λ (xs : List ℕ). xs) out

  abbrev has_successor : ℕ → Bool
  has_successor p = is_some (successor classes levels p)

  abbrev is_later : ℕ → Bool
  is_later p = not (is_first classes levels p)

  -- of what follows one another, as many have a successor as are one, but for the last
  counts_along : (p : ℕ) (ps : List ℕ) → is_kept_at classes p ≡ true → p < length classes → AreSuccessors (p ∷ ps)
      → count_by has_successor (p ∷ ps) ≡ count_by is_later ps + cond (has_successor (last_or p ps)) 1 0
  counts_along p [] kept within follows = omega (arith, sum_by-cons (λ x. cond (has_successor x) 1 0) p [])
  counts_along p (q ∷ ps) kept within follows =
      grind (
        arith,
        successor-IsLaterKept,
        sum_by-cons (λ x. cond (has_successor x) 1 0) p (q ∷ ps),
        sum_by-cons (λ x. cond (is_later x) 1 0) q ps,
        is_first-successor,
        counts_along q ps,
      )

  counts_of : (xs : List ℕ) → IsBegunList xs → count_by has_successor xs ≡ count_by is_later xs + cond (has_successor (last_or 0 xs)) 1 0
  counts_of xs begun = grind (arith, counts_along)

  counts_all : (out : List (List ℕ)) → AllBegun out → count_by has_successor (all_of out) ≡ count_by is_later (all_of out) + sum_by (λ (xs : List ℕ). cond (has_successor (last_or 0 xs)) 1 0) out
  counts_all [] begun = refl
  counts_all (xs ∷ out) begun = simp (sum_by-append, sum_by-cons, counts_of xs begun.0, counts_all out begun.1) (omega arith)

  counts_chains : (ps : List ℕ) → AllFirst classes levels ps → count_by has_successor (flat_map (places_from classes levels) ps) ≡ count_by is_later (flat_map (places_from classes levels) ps)
  counts_chains [] h = refl
  counts_chains (p ∷ ps) h = grind (
    arith,
    sum_by-append,
    IsMaximal-chain (length classes) (is_kept_at classes)
        (successor classes levels) (IsLinked-successor classes levels) p,
    counts_of,
    counts_chains ps,
  )

  pub AllFirst-filter : (low m : ℕ) → low + m ≤ length classes → AllFirst classes levels (filter (is_first classes levels) (filter (is_kept_at classes) (range_with_len low m)))
  AllFirst-filter low zero fits = tt
  AllFirst-filter low (suc m) fits = grind (arith, AllFirst-filter (low + 1) m)

  -- in all, as many have a successor as are one
  counts_kept : count_by has_successor (kept_indexes classes) ≡ count_by is_later (kept_indexes classes)
  unfolding kept_indexes
  counts_kept = grind (arith, sum_by-IsPermutation, IsPermutation-places classes levels, counts_chains (filter (is_first classes levels) (kept_indexes classes)), AllFirst-filter 0 (length classes))

  abbrev pub AllEnded : List (List ℕ) → Type 0
  AllEnded [] = Unit {0}
  AllEnded (xs ∷ out) = (successor classes levels (last_or 0 xs) ≡ None) × AllEnded out

  ended_by : (out : List (List ℕ)) → sum_by (λ (xs : List ℕ). cond (has_successor (last_or 0 xs)) 1 0) out ≡ 0 → AllEnded out
  ended_by [] e = tt
  ended_by (xs ∷ out) e = grind (arith, sum_by-cons (λ (ys : List ℕ). cond (has_successor (last_or 0 ys)) 1 0) xs out, ended_by out)

  -- once each kept character stands in one list, once, no list goes on
  pub AllEnded-shared : (out : List (List ℕ)) → AllBegun out → IsPermutation (kept_indexes classes) (all_of out) → AllEnded out
  AllEnded-shared out begun shared = grind (arith, ended_by, sum_by-IsPermutation, counts_all, counts_kept)

  -- the first characters
  abbrev pub firsts : List (List ℕ) → List ℕ
  firsts [] = []
  firsts ([] ∷ out) = firsts out
  firsts ((p ∷ ps) ∷ out) = p ∷ firsts out

  chain_is : (p : ℕ) (ps : List ℕ) → IsBegun p ps → successor classes levels (last_or p ps) ≡ None → p ∷ ps ≡ places_from classes levels p
  chain_is p ps begun ended = Follows-chain (length classes) (is_kept_at classes) (successor classes levels) (IsLinked-successor classes levels) p ps begun.kept begun.within begun.follows ended

  -- a list that ended is the chain from its first character
  pub all_chains : (out : List (List ℕ)) → AllBegun out → AllEnded out → map (places_from classes levels) (firsts out) ≡ out
  all_chains [] begun ended = refl
  all_chains (xs ∷ out) begun ended = grind (arith, chain_is, all_chains out begun.1 ended.1)

  pub AllFirst-firsts : (out : List (List ℕ)) → AllBegun out → AllFirst classes levels (firsts out)
  AllFirst-firsts [] begun = tt
  AllFirst-firsts (xs ∷ out) begun = grind (arith, AllFirst-firsts out begun.1)

  -- the sequence of these places
  abbrev pub sequence_of : ℕ → List ℕ → RunSequence
  sequence_of para_level xs = with_ends para_level classes levels xs

  all_sequences : (para_level : ℕ) (out : List (List ℕ)) → AllBegun out → AllEnded out → map (sequence_from para_level classes levels) (firsts out) ≡ map (sequence_of para_level) out
  unfolding sequence_from
  all_sequences para_level [] begun ended = refl
  all_sequences para_level (xs ∷ out) begun ended = grind (arith, chain_is, all_sequences para_level out begun.1 ended.1)

  shared_chains : (out : List (List ℕ)) → AllBegun out → IsPermutation (kept_indexes classes) (all_of out) → IsPermutation (kept_indexes classes) (flat_map (places_from classes levels) (firsts out))
  shared_chains out begun shared = rw (← flat_map-map (λ (xs : List ℕ). xs) (places_from classes levels) (firsts out), all_chains out begun (AllEnded-shared out begun shared)) shared

  -- in the order of their first characters it is the list of sequences
  pub sequences-from_pass_in_order : (para_level : ℕ) (out : List (List ℕ)) → AllBegun out
      → IsPermutation (kept_indexes classes) (all_of out) → Ascends 0 (firsts out) (length classes)
      → map (sequence_of para_level) out ≡ sequences para_level classes levels
  unfolding sequences kept_indexes
  sequences-from_pass_in_order para_level out begun shared in_order =
      let starts : List ℕ = filter (is_first classes levels) (kept_indexes classes) in
      let all : IsPermutation starts (firsts out) = IsPermutation-first classes levels (firsts out) (AllFirst-firsts out begun) (shared_chains out begun shared) in
      let same : starts ≡ firsts out = same_ascending 0 (length classes) starts (firsts out) (grind (arith, Ascends-filter, Ascends-range)) in_order (λ x. count_of-IsPermutation x starts (firsts out) all) in
      sym (rw same (all_sequences para_level out begun (AllEnded-shared out begun shared)))

  -- a step: a sequence begins
  pub AllBegun-push : (out : List (List ℕ)) (p : ℕ) (ps : List ℕ) → AllBegun out → IsBegun p ps → AllBegun (out ++ (p ∷ ps) ∷ [])
  AllBegun-push [] p ps begun one = (one, tt)
  AllBegun-push (xs ∷ out) p ps begun one = grind (arith, AllBegun-push out p ps)

  -- a step: the sequence at s goes on
  pub AllBegun-join : (out : List (List ℕ)) (s q : ℕ) (qs : List ℕ) → AllBegun out → s < length out
      → successor classes levels (last_or 0 (get_or out s [])) ≡ Some q → AreSuccessors (q ∷ qs)
      → AllBegun (set out s (get_or out s [] ++ q ∷ qs))
  AllBegun-join [] s q qs begun within next follows = absurd (omega arith)
  AllBegun-join (xs ∷ out) s q qs begun within next follows =
      grind (
        arith,
        Follows-join (length classes) (is_kept_at classes) (successor classes levels)
            (IsLinked-successor classes levels),
        AllBegun-join out,
      )

  -- what the two steps do to the first characters
  pub firsts-push : (out : List (List ℕ)) (p : ℕ) (ps : List ℕ) → firsts (out ++ (p ∷ ps) ∷ []) ≡ firsts out ++ p ∷ []
  firsts-push [] p ps = refl
  firsts-push (xs ∷ out) p ps = grind (arith, firsts-push out p ps)

  pub firsts-join : (out : List (List ℕ)) (s : ℕ) (qs : List ℕ) → AllBegun out → firsts (set out s (get_or out s [] ++ qs)) ≡ firsts out
  firsts-join [] s qs begun = refl
  firsts-join (xs ∷ out) s qs begun = grind (arith, firsts-join out)

  -- where the kept characters from m up to b are the ones that came
  abbrev pub kept_below : ℕ → List ℕ
  kept_below m = filter (is_kept_at classes) (range_with_len 0 m)

  pub kept_more : (m n : ℕ) (xs : List ℕ) → filter (is_kept_at classes) (range_with_len m n) ≡ xs → kept_below (m + n) ≡ kept_below m ++ xs
  kept_more m n xs here = grind (arith, range_with_len-append, filter-append)

  joined : (out : List (List ℕ)) (s : ℕ) (xs : List ℕ) → s < length out → IsPermutation (all_of out ++ xs) (all_of (set out s (get_or out s [] ++ xs)))
  joined [] s xs within = absurd (omega arith)
  joined (ys ∷ out) zero xs within = grind (arith, append_assoc, IsPermutation-append_right, IsPermutation-append_comm)
  joined (ys ∷ out) (suc s) xs within = grind (arith, joined out s xs, append_assoc, IsPermutation-append_right)

  pub shares-push : (m n : ℕ) (out : List (List ℕ)) (xs : List ℕ) → IsPermutation (kept_below m) (all_of out)
      → filter (is_kept_at classes) (range_with_len m n) ≡ xs → IsPermutation (kept_below (m + n)) (all_of (out ++ xs ∷ []))
  shares-push m n out xs shared here = grind (arith, kept_more, flat_map-append, append-nil, IsPermutation-append_left)

  pub shares-join : (m n : ℕ) (out : List (List ℕ)) (s : ℕ) (xs : List ℕ) → IsPermutation (kept_below m) (all_of out)
      → filter (is_kept_at classes) (range_with_len m n) ≡ xs → s < length out
      → IsPermutation (kept_below (m + n)) (all_of (set out s (get_or out s [] ++ xs)))
  shares-join m n out s xs shared here within =
      grind (
        arith,
        kept_more,
        IsPermutation-trans (kept_below m ++ xs) (all_of out ++ xs),
        IsPermutation-append_left xs (kept_below m) (all_of out),
        joined out s xs,
      )
