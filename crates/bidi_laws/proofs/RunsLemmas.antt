-- Level runs: each is a stretch of characters that follow one another, and a sequence that goes on does so at the first
-- character of a run.
use Rattle.bidi_base.proofs.Common.{◌≡◌, ℕ, zero, suc, ◌+◌, ◌-◌, ◌<◌, ◌≤◌, true, false, List, [], ◌∷◌, length, Some, refl, subst, arith, ◌⊎◌, inl, inr, filter, range_with_len, cases_Bool}
use Rattle.bidi_base.proofs.Common.{false_from_ne_true, last_or, is_isolate_initiator_at, matching_pdi, is_kept_at, next_kept, kept_before, level_at, have_one_level, successor, is_first, begins_run}
use Rattle.bidi_base.specs.declared.char_data.BidiClass.{BidiClass}
use Rattle.bidi_laws.proofs.SuccessorLemmas.{IsRunStep, have_one_level-level, have_one_level-from, next_kept-IsLeast, kept_before-next, kept_before-is}
use Rattle.bidi_laws.proofs.SuccessorLemmas.{kept_before-is_None, next_kept-before, successor-cases, successor-run_step, successor-resumed}
use Rattle.bidi_laws.proofs.SequencesLemmas.{is_first-from_none}
use Rattle.bidi_laws.proofs.PassLemmas.{AreSuccessors}
use Rattle.bidi_base.proofs.Lists.{cases_Option}

module _ (classes : List BidiClass) (levels : List ℕ) where
  -- a level run begins at a kept character, or ends at one
  abbrev pub BeginsRun : ℕ → Type 0
  BeginsRun p = have_one_level levels (kept_before classes p) p ≡ false

  abbrev pub EndsRun : ℕ → Type 0
  EndsRun p = have_one_level levels (next_kept classes p) p ≡ false

  -- each character follows the one before it in one level run
  abbrev pub AreRunSteps : List ℕ → Type 0
  AreRunSteps [] = Unit {0}
  AreRunSteps (p ∷ []) = Unit {0}
  AreRunSteps (p ∷ q ∷ ps) = IsRunStep classes levels p q × AreRunSteps (q ∷ ps)

  -- the kept characters of a whole level run
  pub record IsRun (p : ℕ) (ps : List ℕ) : Type 0 where
    pub kept : is_kept_at classes p ≡ true
    pub within : p < length classes
    pub begins : BeginsRun p
    pub steps : AreRunSteps (p ∷ ps)
    pub ends : EndsRun (last_or p ps)

  pub AreRunSteps-successors : (p : ℕ) (ps : List ℕ) → AreRunSteps (p ∷ ps) → AreSuccessors classes levels (p ∷ ps)
  AreRunSteps-successors p [] steps = tt
  AreRunSteps-successors p (q ∷ ps) steps = grind (arith, successor-run_step, AreRunSteps-successors q ps)

  -- an initiator that ends a run goes on where its matching PDI begins one
  pub successor-at_match : (i m : ℕ) → is_isolate_initiator_at classes i ≡ true → matching_pdi classes i ≡ Some m → EndsRun i → BeginsRun m → successor classes levels i ≡ Some m
  successor-at_match i m opens matches ends begins = grind (arith, successor-resumed)

  -- a run that no such initiator goes on with begins a sequence
  pub is_first-run : (m : ℕ) → BeginsRun m → ((i : ℕ) → is_isolate_initiator_at classes i ≡ true → matching_pdi classes i ≡ Some m → EndsRun i → ⊥) → is_first classes levels m ≡ true
  is_first-run m begins none = is_first-from_none classes levels m
      (λ p kept within e. grind (
        arith,
        successor-cases classes levels p m e,
        have_one_level-from,
        kept_before-next,
        none p,
      ))

  -- the characters from a up to b are a level run: one begins at a, or a is the front of the paragraph, and none begins
  -- after it before b
  pub record IsLevelRun (a b : ℕ) : Type 0 where
    pub not_empty : a < b
    pub within : b ≤ length classes
    pub starts : (a ≡ 0) ⊎ (begins_run classes levels a ≡ true)
    pub inside : (k : ℕ) → a < k → k < b → begins_run classes levels k ≡ false
    pub stops : (b ≡ length classes) ⊎ (begins_run classes levels b ≡ true)

  -- from p on, all kept characters below `high` follow one another, up to the last
  record IsWalked (p : ℕ) (xs : List ℕ) (high : ℕ) : Type 0 where
    steps : AreRunSteps (p ∷ xs)
    last_kept : is_kept_at classes (last_or p xs) ≡ true
    last_below : last_or p xs < high
    last_alone : (k : ℕ) → last_or p xs < k → k < high → is_kept_at classes k ≡ false

  step_inside : (p q : ℕ) → is_kept_at classes p ≡ true → p < q → q < length classes → is_kept_at classes q ≡ true
      → ((k : ℕ) → p < k → k < q → is_kept_at classes k ≡ false) → begins_run classes levels q ≡ false → IsRunStep classes levels p q
  unfolding begins_run
  step_inside p q kept before within here none inside = grind (arith, kept_before-is, next_kept-before)

  walk : (low m p : ℕ) → is_kept_at classes p ≡ true → p < low → low + m ≤ length classes
      → ((k : ℕ) → p < k → k < low → is_kept_at classes k ≡ false) → ((k : ℕ) → low ≤ k → k < low + m → begins_run classes levels k ≡ false)
      → IsWalked p (filter (is_kept_at classes) (range_with_len low m)) (low + m)
  walk low zero p kept before fits none inside = record { steps = tt; last_kept = kept; last_below = omega arith; last_alone = λ k from below. none k from (omega arith) }
  walk low (suc m) p kept before fits none inside = elim (cases_Bool (is_kept_at classes low)) [
    | inl here ↦
        let rest = walk (low + 1) m low here (omega arith) (omega arith) (λ k from below. absurd (omega arith))
        (λ k from below. inside k (omega arith) (omega arith)) in
        grind (arith, rest.steps, rest.last_kept, rest.last_below, rest.last_alone, step_inside p low, inside low)
    | inr gone ↦
        let rest = walk (low + 1) m p kept (omega arith) (omega arith) (λ k from below. grind (arith, none k))
        (λ k from below. inside k (omega arith) (omega arith)) in
        grind (arith, rest.steps, rest.last_kept, rest.last_below, rest.last_alone)
  ]

  run_ends : (a b p : ℕ) (ps : List ℕ) → IsLevelRun a b → IsWalked p ps b → EndsRun (last_or p ps)
  unfolding begins_run
  run_ends a b p ps h w = elim (cases_Option (next_kept classes (last_or p ps))) [
    | inl f ↦ simp f
    | inr (q, f) ↦
        let least = next_kept-IsLeast classes (last_or p ps) q f in
        false_from_ne_true _ (λ one. grind (
          arith,
          w.last_alone q,
          least.first b,
          h.stops,
          have_one_level-level levels _ (last_or p ps) q one f,
          kept_before-next classes (last_or p ps) q w.last_kept f,
          have_one_level-from levels (kept_before classes q) q (last_or p ps),
        ))
  ]

  -- the first kept character of a range, and those after it
  pub record IsFront (low high p : ℕ) (ps : List ℕ) : Type 0 where
    pub kept : is_kept_at classes p ≡ true
    pub from : low ≤ p
    pub below : p < high
    pub none : (k : ℕ) → low ≤ k → k < p → is_kept_at classes k ≡ false
    pub rest : ps ≡ filter (is_kept_at classes) (range_with_len (p + 1) (high - (p + 1)))

  pub front_of : (low m p : ℕ) (ps : List ℕ) → filter (is_kept_at classes) (range_with_len low m) ≡ p ∷ ps → IsFront low (low + m) p ps
  front_of low zero p ps e = absurd (cc e)
  front_of low (suc m) p ps e = grind (arith, front_of (low + 1) m p ps)

  -- its kept characters are a whole run
  pub IsRun-IsLevelRun : (a b p : ℕ) (ps : List ℕ) → IsLevelRun a b → filter (is_kept_at classes) (range_with_len a (b - a)) ≡ p ∷ ps → IsRun p ps
  unfolding begins_run
  IsRun-IsLevelRun a b p ps h e =
      let whole : a + (b - a) ≡ b = omega (arith, h.not_empty) in
      let f : IsFront a b p ps = simp whole at (front_of a (b - a) p ps e) in
      let w : IsWalked p ps b = grind (arith, walk (p + 1) (b - (p + 1)) p, f.rest, f.none, h.inside) in
      let begins : BeginsRun p = grind (arith, kept_before-is_None, h.starts, f.none) in
      grind (arith, f.kept, f.below, h.within, begins, w.steps, run_ends a b p ps h w)

  -- all characters of what follows one another have one level
  abbrev pub AllOfLevel : ℕ → List ℕ → Type 0
  AllOfLevel level [] = Unit {0}
  AllOfLevel level (p ∷ ps) = (level_at levels p ≡ level) × AllOfLevel level ps

  pub AllOfLevel-run : (p : ℕ) (ps : List ℕ) → AreRunSteps (p ∷ ps) → AllOfLevel (level_at levels p) (p ∷ ps)
  AllOfLevel-run p [] steps = (refl, tt)
  AllOfLevel-run p (q ∷ ps) steps = (refl, subst (λ (x : ℕ). AllOfLevel x (q ∷ ps)) steps.0.level (AllOfLevel-run q ps steps.1))
