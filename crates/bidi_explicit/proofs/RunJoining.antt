-- The first and the last kept character of a level run, their level, and what is next to the run.
use Rattle.bidi_base.proofs.Common.{◌≡◌, ℕ, ◌+◌, ◌-◌, ◌<◌, ◌≤◌, true, eqb, max, List, [], ◌∷◌, length, Option, Some, None, refl, arith, ◌⊎◌, inl, inr, filter, range_with_len, cases_eq, both_ways}
use Rattle.bidi_base.proofs.Common.{and_parts, is_isolate_initiator, direction_of, class_at, last_or, between, is_kept_at, kept_before, level_at, end_class, begins_run, find, if◌then◌else◌, is_some}
use Rattle.bidi_base.specs.declared.char_data.BidiClass.{BidiClass}
use Rattle.bidi_base.proofs.PlacesLemmas.{find-between, find-between-None}
use Rattle.bidi_laws.proofs.SuccessorLemmas.{next_kept-is, next_kept-is_None, kept_before-is, kept_before-is_None}
use Rattle.bidi_laws.proofs.RunsLemmas.{AllOfLevel, AllOfLevel-run, IsLevelRun, IsRun-IsLevelRun}
use Rattle.bidi_explicit.proofs.KeptRangeLemmas.{filter_range-first, last_or-range}
use Rattle.bidi_explicit.proofs.RunUnits.{NoneKept, IsLast}

-- the first kept character of a run
pub record IsFirst (classes : List BidiClass) (a b f : ℕ) : Type 0 where
  pub from : a ≤ f
  pub below : f < b
  pub kept : is_kept_at classes f ≡ true
  pub none : NoneKept classes a f

pub first_of : (classes : List BidiClass) (a b l : ℕ) → IsLast classes a b l → (f : ℕ) × IsFirst classes a b f
first_of classes a b l last = by_result (find (is_kept_at classes) (between a b)) refl
  where
    by_result : (o : Option ℕ) → find (is_kept_at classes) (between a b) ≡ o → (f : ℕ) × IsFirst classes a b f
    by_result None e = absurd (both_ways (is_kept_at classes l) (find-between-None (is_kept_at classes) a b e l last.from last.below) last.kept)
    by_result (Some f) e = grind (arith, find-between)

module _ (classes : List BidiClass) (levels : List ℕ) (para_level : ℕ) where
  -- where a run begins a character is kept, but for the front of the paragraph
  pub begins_kept : (a : ℕ) → begins_run classes levels a ≡ true → is_kept_at classes a ≡ true
  unfolding begins_run
  begins_kept a e = (and_parts _ _ (and_parts _ _ e).0).0

  pub begins_after : (a : ℕ) → begins_run classes levels a ≡ true → is_some (kept_before classes a) ≡ true
  unfolding begins_run
  begins_after a e = (and_parts _ _ (and_parts _ _ e).0).1

  -- nothing kept stands before the first kept character of a run
  pub first_at : (a b f : ℕ) → IsLevelRun classes levels a b → IsFirst classes a b f → (f ≡ a) ⊎ (a ≡ 0)
  first_at a b f range first = grind (arith, begins_kept)

  pub kept_before-first : (a b f : ℕ) → IsLevelRun classes levels a b → IsFirst classes a b f → kept_before classes f ≡ kept_before classes a
  kept_before-first a b f range first = grind (arith, first_at a b f range first, kept_before-is_None)

  -- all characters of a run have one level
  last_level : (level p : ℕ) (ps : List ℕ) → AllOfLevel classes levels level (p ∷ ps) → level_at levels (last_or p ps) ≡ level
  last_level level p [] h = h.0
  last_level level p (q ∷ ps) h = last_level level q ps h.1

  abbrev pub rest_of : ℕ → ℕ → List ℕ
  rest_of f b = filter (is_kept_at classes) (range_with_len (f + 1) (b - (f + 1)))

  pub front_is : (a b f : ℕ) → IsLevelRun classes levels a b → IsFirst classes a b f → filter (is_kept_at classes) (range_with_len a (b - a)) ≡ f ∷ rest_of f b
  front_is a b f range first = grind (arith, filter_range-first (is_kept_at classes) a (b - a) f)

  pub last_is : (a b f l : ℕ) → IsLevelRun classes levels a b → IsFirst classes a b f → IsLast classes a b l → last_or f (rest_of f b) ≡ l
  last_is a b f l range first last = grind (
    arith,
    last_or-range (is_kept_at classes) a (b - a) f l,
    front_is a b f range first,
  )

  pub one_level : (a b f l : ℕ) → IsLevelRun classes levels a b → IsFirst classes a b f → IsLast classes a b l → level_at levels f ≡ level_at levels l
  one_level a b f l range first last =
      grind (
        arith,
        IsRun-IsLevelRun classes levels a b f (rest_of f b) range (front_is a b f range first),
        last_is a b f l range first last,
        last_level,
        AllOfLevel-run,
      )

  -- the kept character before the next run
  pub kept_before-next_run : (a b l : ℕ) → IsLast classes a b l → kept_before classes b ≡ Some l
  kept_before-next_run a b l last = grind (arith, kept_before-is) steps 400000

  -- the level beyond the last character of a run, as the pass finds it
  abbrev pub level_beyond : ℕ → ℕ → ℕ
  level_beyond l b = if is_isolate_initiator (class_at classes l) then para_level else (if eqb b (length classes) then para_level else level_at levels b)

  pub end_is : (a b l : ℕ) → IsLevelRun classes levels a b → IsLast classes a b l → end_class para_level classes levels l ≡ direction_of (max (level_at levels l) (level_beyond l b))
  unfolding end_class
  end_is a b l range last = elim (cases_eq b (length classes)) [
    | inl all ↦ grind (arith, next_kept-is_None)
    | inr more ↦
        let begins : begins_run classes levels b ≡ true = grind (arith, range.stops) in
        let next = next_kept-is classes l b (record {
          from = omega (arith, last.below);
          below = omega (arith, range.within, more);
          passes = begins_kept b begins;
          first = last.none;
        }) in
        grind arith
  ]
