-- A paragraph in which no embedding and no isolate begins: one level, and one sequence of all that X9 keeps.
use Rattle.bidi_base.proofs.Common.{◌≡◌, ℕ, zero, suc, ◌+◌, ◌-◌, ◌<◌, ◌≤◌, Bool, true, false, cond, List, [], ◌∷◌, length, map, max, find, Option, Some, None, refl, sym, ap, ◌∙◌, arith, inl, inr}
use Rattle.bidi_base.proofs.Common.{add-one, filter, range_with_len, both_ways, or_parts, ext_get_or, length-map, get_or-map, get_or_past, get_or-replicate, length-replicate, list_any_at}
use Rattle.bidi_base.proofs.Common.{IsPermutation-refl, is_isolate_initiator, is_embedding_initiator, is_opener, is_removed, direction_of, chain, class_at, at_indexes, last_or, indexes, stored_class, stored_classes}
use Rattle.bidi_base.proofs.Common.{is_inside, is_embedded, is_open_at, open_at, status_inside, status_at, explicit_level, explicit_class, explicit_levels, explicit_classes, processing_class}
use Rattle.bidi_base.proofs.Common.{processing_classes, has_places, is_kept_at, is_first, kept_indexes, level_at, level_or, kept_before, next_kept, resumed_at, successor, start_class, end_class}
use Rattle.bidi_base.proofs.Common.{sequence_from, sequences, neutral_classes, resolved_levels, AreResolved, levels_in, is_flat, run_levels, kept_of, replicate}
use Rattle.bidi_base.specs.declared.char_data.BidiClass.{BidiClass}
use Rattle.bidi_base.specs.declared.char_data.BidiClass.TheVariants.{L, BN}
use Rattle.bidi_base.specs.declared.data_source.BidiMatchedOpeningBracket.{BidiMatchedOpeningBracket}
use Rattle.bidi_base.specs.WithoutOpeners.{whole_run}
use Rattle.bidi_base.proofs.ChainLemmas.{chain-None, filter_range-none, filter_range-agree, filter_chain_from}
use Rattle.bidi_laws.proofs.ExplicitLemmas.{length-explicit_levels, level_at-explicit_levels, length-explicit_classes}
use Rattle.bidi_laws.proofs.ExplicitLemmas.{class_at-explicit_classes, length-processing_classes, class_at-processing_classes}
use Rattle.bidi_laws.proofs.LevelsInLemmas.{levels_in-written}
use Rattle.bidi_base.proofs.Lists.{cases_Option}
use Rattle.bidi_base.proofs.PlacesLemmas.{IsLeast, find-range_with_len, length-in_context}
use Rattle.bidi_laws.proofs.ResolvedLemmas.{length-n0, length-weak_classes}
use Rattle.bidi_laws.proofs.SequencesLemmas.{IsLinked-successor, is_first-from_none, is_first-successor}
use Rattle.bidi_laws.proofs.SuccessorLemmas.{next_kept-IsLeast, kept_before-IsGreatest, successor-IsLaterKept, successor-run_step}
use Rattle.bidi_laws.proofs.StoredLemmas.{class_at-stored_classes}
use Rattle.bidi_laws.proofs.StoredSteps.{length-stored_classes}

-- ---- nothing is open

opens_nothing : (c : BidiClass) → is_opener c ≡ false → (is_isolate_initiator c ≡ false) × (is_embedding_initiator c ≡ false)
opens_nothing c h = or_parts (is_isolate_initiator c) (is_embedding_initiator c) h

stored_class-flat : (classes : List BidiClass) (q : ℕ) (c : BidiClass) → is_opener c ≡ false → stored_class classes q c ≡ c
stored_class-flat classes q c h = grind arith

-- ---- what is at the kept places

at_indexes-later : {X : Type 0} (d x : X) (xs : List X) (test : ℕ → Bool) (low m : ℕ)
    → at_indexes d (x ∷ xs) (filter test (range_with_len (low + 1) m)) ≡ at_indexes d xs (filter (λ p. test (p + 1)) (range_with_len low m))
at_indexes-later d x xs test low zero = refl
at_indexes-later d x xs test low (suc m) = grind (arith, add-one low, at_indexes-later d x xs test (low + 1) m)

pub at_indexes-kept : {X : Type 0} (d : X) (classes : List BidiClass) (xs : List X) → length xs ≡ length classes → at_indexes d xs (kept_indexes classes) ≡ kept_of classes xs
unfolding kept_indexes
at_indexes-kept d [] xs long = refl
at_indexes-kept d (c ∷ classes) [] long = absurd (omega arith)
at_indexes-kept {X} d (c ∷ classes) (x ∷ xs) long =
    grind (
      arith,
      add-one,
      at_indexes-later d x xs (is_kept_at (c ∷ classes)) 0 (length classes),
      filter_range-agree (λ p. is_kept_at (c ∷ classes) (p + 1)) (is_kept_at classes) 0 (length classes)
          (λ p from below. ap (is_kept_at (c ∷ classes)) (add-one p)),
      at_indexes-kept d classes xs,
    )

pub kept_of-replicate : {X : Type 0} (classes : List BidiClass) (x : X) → kept_of classes (replicate (length classes) x) ≡ replicate (length (kept_of classes classes)) x
kept_of-replicate [] x = refl
kept_of-replicate (c ∷ classes) x = grind (arith, kept_of-replicate classes x)

-- ---- what fills the removed characters, by lists

-- one level a character
pub length-run_levels : (level : ℕ) (classes : List BidiClass) (brackets : List (Option BidiMatchedOpeningBracket)) → length (run_levels level classes brackets) ≡ length classes
unfolding neutral_classes
length-run_levels level classes brackets = grind (arith, length-map, length-in_context, length-n0, length-weak_classes)

last_within : (test : ℕ → Bool) (low m d bound : ℕ) → low + m ≤ bound → d < bound → last_or d (filter test (range_with_len low m)) < bound
last_within test low zero d bound fits below = below
last_within test low (suc m) d bound fits below = grind (arith, last_within test (low + 1) m low bound, last_within test (low + 1) m d bound)

module _ (classes : List BidiClass) (flat : is_flat classes ≡ true) where
  pub opener_at-flat : (p : ℕ) → is_opener (class_at classes p) ≡ false
  opener_at-flat p = grind (arith, list_any_at, get_or_past)

  -- no FSI is there to be resolved
  pub stored_classes-flat : stored_classes classes ≡ classes
  stored_classes-flat = grind (
    arith,
    ext_get_or L (stored_classes classes) classes,
    length-stored_classes,
    class_at-stored_classes,
    stored_class-flat,
    opener_at-flat,
  )

  module _ (para_level : ℕ) where
    status_at-flat : (p : ℕ) → status_at para_level classes p ≡ record { level = para_level; override = None }
    unfolding status_at status_inside open_at is_open_at is_inside is_embedded
    status_at-flat p = grind (arith, filter_range-none, opener_at-flat)

    pub explicit_level-flat : (p : ℕ) → explicit_level para_level classes p ≡ para_level
    unfolding explicit_level
    explicit_level-flat p = grind (arith, status_at-flat)

    pub explicit_class-flat : (p : ℕ) → explicit_class para_level classes p ≡ class_at classes p
    unfolding explicit_class
    explicit_class-flat p = grind (arith, status_at-flat)

    -- the levels and the classes after X1 to X8
    pub explicit_levels-flat : explicit_levels para_level classes ≡ replicate (length classes) para_level
    explicit_levels-flat =
        ext_get_or 0 _ _ (simp (length-explicit_levels, length-replicate))
        (λ p within. grind (arith, length-explicit_levels, level_at-explicit_levels, explicit_level-flat, get_or-replicate))

    pub explicit_classes-flat : explicit_classes para_level classes ≡ classes
    explicit_classes-flat = grind (
      arith,
      ext_get_or L (explicit_classes para_level classes) classes,
      length-explicit_classes,
      class_at-explicit_classes,
      explicit_class-flat,
    )

    -- the classes with which the passes over units begin
    pub processing_classes-flat : processing_classes para_level classes ≡ map (λ c. cond (is_removed c) BN c) classes
    unfolding processing_class
    processing_classes-flat =
        ext_get_or L _ _ (simp (length-processing_classes, length-map))
        (λ p within. grind (arith, length-processing_classes, class_at-processing_classes, explicit_class-flat, get_or-map))

    -- ---- one sequence

    abbrev levels : List ℕ
    levels = explicit_levels para_level classes

    pub level_at-flat : (p : ℕ) → p < length classes → level_at levels p ≡ para_level
    level_at-flat p within = level_at-explicit_levels para_level classes p within ∙ explicit_level-flat p

    -- the successor of a character is the next one that is kept
    successor-flat : (p : ℕ) → p < length classes → successor classes levels p ≡ next_kept classes p
    unfolding successor resumed_at
    successor-flat p within = elim (cases_Option (next_kept classes p)) [
      | inl e ↦ simp (e, (opens_nothing (class_at classes p) (opener_at-flat p)).0)
      | inr (q, e) ↦ grind (arith, next_kept-IsLeast classes p q e, successor-run_step classes levels p q, level_at-flat)
    ]

    next_kept-range : (low m : ℕ) → low + suc m ≡ length classes → next_kept classes low ≡ find (is_kept_at classes) (range_with_len (low + 1) m)
    unfolding next_kept
    next_kept-range low m e = let count : length classes - (low + 1) ≡ m = omega arith in ap (λ n. find (is_kept_at classes) (range_with_len (low + 1) n)) count

    -- so the chain from the first kept place on is all of them
    chain-flat : (m low j : ℕ) → low + m ≡ length classes → m ≤ j
        → chain (successor classes levels) j (find (is_kept_at classes) (range_with_len low m)) ≡ filter (is_kept_at classes) (range_with_len low m)
    chain-flat zero low j e wide = chain-None (successor classes levels) j
    chain-flat (suc m) low zero e wide = absurd (omega arith)
    chain-flat (suc m) low (suc j) e wide = grind (arith, successor-flat low, next_kept-range low m, chain-flat m (low + 1) j, chain-flat m (low + 1) (suc j))

    abbrev first_kept : Option ℕ
    first_kept = find (is_kept_at classes) (indexes classes)

    kept_indexes-chain : kept_indexes classes ≡ chain (successor classes levels) (length classes) first_kept
    unfolding kept_indexes
    kept_indexes-chain = sym (chain-flat (length classes) 0 (length classes) (omega arith) (omega arith))

    kept_indexes-none : first_kept ≡ None → kept_indexes classes ≡ []
    kept_indexes-none e = simp (kept_indexes-chain, e, chain-None)

    level_or-flat : (o : Option ℕ) → ((q : ℕ) → o ≡ Some q → q < length classes) → level_or para_level levels o ≡ para_level
    level_or-flat None within = refl
    level_or-flat (Some q) within = level_at-flat q (within q refl)

    greater_of_one : direction_of (max para_level para_level) ≡ direction_of para_level
    greater_of_one = let same : max para_level para_level ≡ para_level = omega arith in ap direction_of same

    start_class-flat : (first : ℕ) → first < length classes → start_class para_level classes levels first ≡ direction_of para_level
    unfolding start_class
    start_class-flat first within =
        simp (level_at-flat first within, level_or-flat (kept_before classes first) (λ q e. omega (arith, (kept_before-IsGreatest classes first q e).below))) greater_of_one

    end_class-flat : (last : ℕ) → last < length classes → end_class para_level classes levels last ≡ direction_of para_level
    unfolding end_class
    end_class-flat last within =
        let opens = (opens_nothing (class_at classes last) (opener_at-flat last)).0 in
        simp (opens, level_at-flat last within, level_or-flat (next_kept classes last) (λ q e. (next_kept-IsLeast classes last q e).below)) greater_of_one

    -- of kept characters the first one, and no other, begins a sequence
    module _ (first : ℕ) (found : first_kept ≡ Some first) where
      least : IsLeast (is_kept_at classes) 0 (0 + length classes) first
      least = find-range_with_len (is_kept_at classes) 0 (length classes) first found

      first_within : first < length classes
      first_within = omega (arith, least.below)

      kept_indexes-from : kept_indexes classes ≡ chain (successor classes levels) (length classes) (Some first)
      kept_indexes-from = kept_indexes-chain ∙ ap (chain (successor classes levels) (length classes)) found

      starts-flat : filter (is_first classes levels) (kept_indexes classes) ≡ first ∷ []
      starts-flat =
          simp kept_indexes-from (filter_chain_from (length classes) (is_kept_at classes) (successor classes levels) (IsLinked-successor classes levels) _ (is_first-successor classes levels) first least.passes first_within
          (is_first-from_none classes levels first (λ p kept within e. both_ways (is_kept_at classes p) (least.first p (omega arith) (successor-IsLaterKept classes levels p first e).later) kept)))

      sequence-flat : sequence_from para_level classes levels first ≡ whole_run para_level classes
      unfolding sequence_from kept_indexes
      sequence-flat = grind (
        arith,
        kept_indexes-from,
        start_class-flat,
        first_within,
        end_class-flat,
        last_within (is_kept_at classes) 0 (length classes),
      )

      some_kept : (ps : List ℕ) × (kept_indexes classes ≡ first ∷ ps)
      some_kept = grind (arith, kept_indexes-from)

    pub sequences-flat : sequences para_level classes levels ≡ filter has_places (whole_run para_level classes ∷ [])
    unfolding sequences
    sequences-flat = grind (arith, kept_indexes-none, starts-flat, sequence-flat, some_kept)

    -- ---- what it gives

    module _ (brackets : List (Option BidiMatchedOpeningBracket)) where
      -- the classes and the brackets of what is kept, and the levels that they give
      abbrev pub kept_levels : List ℕ
      kept_levels = run_levels para_level (at_indexes L classes (kept_indexes classes)) (at_indexes None brackets (kept_indexes classes))

      -- a list that has those levels at the kept places has what the rules give each sequence
      pub AreResolved-flat : (new : List ℕ) → at_indexes 0 new (kept_indexes classes) ≡ kept_levels
          → AreResolved classes brackets levels (explicit_classes para_level classes) new (sequences para_level classes levels)
      unfolding resolved_levels
      AreResolved-flat new is =
          grind (arith, sequences-flat, kept_indexes-none, some_kept, level_at-flat, first_within, explicit_classes-flat)

      -- the levels of the paragraph, as a pass leaves them: those of what is kept, and then what X9 removed filled
      pub levels_in-flat_written : (resolved new : List ℕ) → at_indexes 0 resolved (kept_indexes classes) ≡ kept_levels → length new ≡ length classes
          → ((p : ℕ) → p < length classes → is_kept_at classes p ≡ true → level_at new p ≡ level_at resolved p)
          → (0 < length classes → is_kept_at classes 0 ≡ false → level_at new 0 ≡ para_level)
          → ((p : ℕ) → p + 1 < length classes → is_kept_at classes (p + 1) ≡ false → level_at new (p + 1) ≡ level_at new p)
          → new ≡ levels_in para_level classes brackets
      levels_in-flat_written resolved new is long kept front removed =
          levels_in-written para_level classes brackets classes levels (explicit_classes para_level classes) (sequences para_level classes levels) resolved new (sym stored_classes-flat) refl refl
          (IsPermutation-refl (sequences para_level classes levels)) (AreResolved-flat resolved is) long kept front removed
