-- The sequences of a paragraph, resolved in place one after another: what the classes of its characters say once some of them are.
use Rattle.bidi_base.proofs.Common.{◌≡◌, ℕ, zero, suc, ◌<◌, Bool, true, eqb, lt-ltb, List, [], ◌∷◌, ◌++◌, length, map, get_or}
use Rattle.bidi_base.proofs.Common.{take, Option, None, refl, sym, ap, ◌∙◌, arith, inl, inr, filter, list_all}
use Rattle.bidi_base.proofs.Common.{cases_Bool, cases_eq, nat_tests, nil_from_length, list_all-map, flat_map-append}
use Rattle.bidi_base.proofs.Common.{sum_by-append, count_by-le-length, has_direction, is_kept, is_l_or_r, is_kept_in_place}
use Rattle.bidi_base.proofs.Common.{is_weak_resolved, class_at, at_indexes, first_or, explicit_levels, explicit_classes}
use Rattle.bidi_base.proofs.Common.{processing_class, processing_classes, RunSequence, is_kept_at, level_at, has_places}
use Rattle.bidi_base.proofs.Common.{sequences, weak_classes, direction_of, n2_rule, neutral_classes, implicit_level, implicit_levels, resolved_levels, AreResolved}
use Rattle.bidi_base.specs.declared.char_data.BidiClass.{BidiClass}
use Rattle.bidi_base.specs.declared.char_data.BidiClass.TheVariants.{L}
use Rattle.bidi_base.specs.declared.data_source.BidiMatchedOpeningBracket.{BidiMatchedOpeningBracket}
use Rattle.bidi_laws.proofs.WeakLemmas.{weak_classes-resolved}
use Rattle.bidi_laws.proofs.ExplicitLemmas.{class_at-explicit_classes, class_at-processing_classes, length-processing_classes}
use Rattle.bidi_laws.proofs.MatchLevelsLemmas.{sequence-one_level}
use Rattle.bidi_laws.proofs.NeutralLemmas.{neutral_classes-directed}
use Rattle.bidi_laws.proofs.SequencePlaces.{times_in-parts, places_of, sequences-once, sequences-kept, times_in}
use Rattle.bidi_paragraphs.proofs.OneLevel.{GiveLevels, KeepLevels}
use Rattle.bidi_laws.proofs.StoredLemmas.{explicit_class-kept, at_indexes-agree, list_all-at_indexes_back, explicit_classes-kept, times_in-first, times_in-later, list_all-at_indexes}

is_kept_in_place-kept : (c : BidiClass) → is_kept c ≡ true → is_kept_in_place c ≡ true
is_kept_in_place-kept c h = grind arith

module _ (source_classes : List BidiClass) (brackets : List (Option BidiMatchedOpeningBracket)) (stored : List BidiClass) (levels : List ℕ) (classes : List BidiClass) where
  -- the classes that W1 to N2 give a sequence
  abbrev pub resolved_classes : RunSequence → List BidiClass
  resolved_classes s =
      neutral_classes (level_at levels (first_or 0 s.places)) s.sos s.eos (at_indexes L source_classes s.places) (at_indexes None brackets s.places) (weak_classes s.sos (at_indexes L classes s.places))

  -- the level of a sequence
  abbrev pub own_level : RunSequence → ℕ
  own_level s = level_at levels (first_or 0 s.places)

  -- at the places of each of some sequences stand classes with the same levels
  abbrev pub HaveLevels : List BidiClass → List RunSequence → Type 0
  HaveLevels now [] = Unit {0}
  HaveLevels now (s ∷ seqs) = (implicit_levels (own_level s) (at_indexes L now s.places) ≡ implicit_levels (own_level s) (resolved_classes s)) × HaveLevels now seqs

  HaveLevels-kept : (now other : List BidiClass) (seqs : List RunSequence)
      → ((p : ℕ) → 0 < times_in (places_of seqs) p → class_at other p ≡ class_at now p) → HaveLevels now seqs → HaveLevels other seqs
  HaveLevels-kept now other [] agree h = h
  HaveLevels-kept now other (s ∷ seqs) agree h =
      grind (arith, agree, at_indexes-agree L other now s.places, HaveLevels-kept now other seqs, sum_by-append)

  HaveLevels-push : (now : List BidiClass) (seqs : List RunSequence) (s : RunSequence) → HaveLevels now seqs
      → implicit_levels (own_level s) (at_indexes L now s.places) ≡ implicit_levels (own_level s) (resolved_classes s) → HaveLevels now (seqs ++ s ∷ [])
  HaveLevels-push now [] s h e = (e, tt)
  HaveLevels-push now (r ∷ seqs) s h e = (h.0, HaveLevels-push now seqs s h.1 e)

  -- N2 changes no level: neither a neutral nor the direction of its level adds to it
  implicit_levels-n2 : (level : ℕ) (cs : List BidiClass) → implicit_levels level cs ≡ implicit_levels level (map (n2_rule (direction_of level)) cs)
  implicit_levels-n2 level [] = refl
  implicit_levels-n2 level (c ∷ cs) = grind (arith, implicit_levels-n2 level cs)

  -- some sequences are resolved, and all other characters have their explicit classes, with BN for what X9 removes
  pub record IsUnderWay (seqs : List RunSequence) (now : List BidiClass) : Type 0 where
    pub long : length now ≡ length stored
    pub read : (p : ℕ) → p < length stored → is_kept_in_place (class_at now p) ≡ is_kept_at stored p
    pub done : HaveLevels now seqs
    pub rest : (p : ℕ) → p < length stored → is_kept_at stored p ≡ true → times_in (places_of seqs) p ≡ 0 → class_at now p ≡ class_at classes p

  -- a sequence whose characters stand in none of them
  pub record IsNext (seqs : List RunSequence) (s : RunSequence) : Type 0 where
    pub sos : is_l_or_r s.sos ≡ true
    pub kept : (p : ℕ) → 0 < times_in s.places p → (is_kept_at stored p ≡ true) × (p < length stored)
    pub apart : (p : ℕ) → 0 < times_in s.places p → times_in (places_of seqs) p ≡ 0
    pub explicit : (p : ℕ) → 0 < times_in s.places p → is_kept_at classes p ≡ true

  -- its weak types are resolved as well
  pub record IsWeakNext (seqs : List RunSequence) (s : RunSequence) (now : List BidiClass) : Type 0 where
    pub long : length now ≡ length stored
    pub read : (p : ℕ) → p < length stored → is_kept_in_place (class_at now p) ≡ is_kept_at stored p
    pub done : HaveLevels now seqs
    pub weak : at_indexes L now s.places ≡ weak_classes s.sos (at_indexes L classes s.places)
    pub rest : (p : ℕ) → p < length stored → is_kept_at stored p ≡ true → times_in (places_of seqs) p ≡ 0 → times_in s.places p ≡ 0 → class_at now p ≡ class_at classes p

  -- elsewhere nothing changed
  abbrev pub StaysElsewhere : List ℕ → List BidiClass → List BidiClass → Type 0
  StaysElsewhere ps old new = (p : ℕ) → times_in ps p ≡ 0 → class_at new p ≡ class_at old p

  module _ (seqs : List RunSequence) (s : RunSequence) (next : IsNext seqs s) where
    none_of : (p : ℕ) → 0 < times_in (places_of seqs) p → times_in s.places p ≡ 0
    none_of p there = grind (arith, next.apart p)

    -- what is written is read, and what is not has not changed
    read_after : (old new : List BidiClass) → ((p : ℕ) → p < length stored → is_kept_in_place (class_at old p) ≡ is_kept_at stored p)
        → StaysElsewhere s.places old new → list_all is_kept_in_place (at_indexes L new s.places) ≡ true
        → (p : ℕ) → p < length stored → is_kept_in_place (class_at new p) ≡ is_kept_at stored p
    read_after old new read stays all p within = elim (cases_eq (times_in s.places p) 0) [
      | inl none ↦ cc (stays p none, read p within)
      | inr some ↦ cc (list_all-at_indexes_back is_kept_in_place L new s.places p all (omega arith), (next.kept p (omega arith)).0)
    ]

    all_read : (test : BidiClass → Bool) → ((c : BidiClass) → test c ≡ true → is_kept_in_place c ≡ true) → (cs : List BidiClass) → list_all test cs ≡ true → list_all is_kept_in_place cs ≡ true
    all_read test reads [] h = refl
    all_read test reads (c ∷ cs) h = grind (arith, reads c, all_read test reads cs)

    -- its classes are still the explicit ones
    unchanged : (now : List BidiClass) → IsUnderWay seqs now → at_indexes L now s.places ≡ at_indexes L classes s.places
    unchanged now h = at_indexes-agree L now classes s.places (λ p there. h.rest p (next.kept p there).1 (next.kept p there).0 (next.apart p there))

    explicit_kept : list_all is_kept (at_indexes L classes s.places) ≡ true
    explicit_kept = list_all-at_indexes is_kept L classes s.places (λ p there. next.explicit p there)

    pub kept_before : (now : List BidiClass) → IsUnderWay seqs now → list_all is_kept (at_indexes L now s.places) ≡ true
    kept_before now h = ap (list_all is_kept) (unchanged now h) ∙ explicit_kept

    -- if its levels can be read off them, nothing is to be done
    pub IsUnderWay-known : (now : List BidiClass) → IsUnderWay seqs now
        → KeepLevels (own_level s) s.sos s.eos (at_indexes L source_classes s.places) (at_indexes None brackets s.places) (at_indexes L now s.places) → IsUnderWay (seqs ++ s ∷ []) now
    IsUnderWay-known now h keeps =
        let same = ap (λ cs. implicit_levels (own_level s) (neutral_classes (own_level s) s.sos s.eos (at_indexes L source_classes s.places) (at_indexes None brackets s.places) (weak_classes s.sos cs))) (unchanged now h) in
        record { long = h.long; read = h.read; done = HaveLevels-push now seqs s h.done (keeps ∙ same); rest = grind (arith, h.rest, flat_map-append, sum_by-append) }

    -- and if they can be read off classes that are written, no more is
    pub IsUnderWay-written : (old new : List BidiClass) → IsUnderWay seqs old → length new ≡ length old → StaysElsewhere s.places old new
        → list_all is_kept_in_place (at_indexes L new s.places) ≡ true
        → GiveLevels (own_level s) s.sos s.eos (at_indexes L source_classes s.places) (at_indexes None brackets s.places) (at_indexes L old s.places) (at_indexes L new s.places)
        → IsUnderWay (seqs ++ s ∷ []) new
    IsUnderWay-written old new h long stays kept gives =
        let same = ap (λ cs. implicit_levels (own_level s) (neutral_classes (own_level s) s.sos s.eos (at_indexes L source_classes s.places) (at_indexes None brackets s.places) (weak_classes s.sos cs))) (unchanged old h) in
        let done = HaveLevels-push new seqs s (HaveLevels-kept old new seqs (λ p there. stays p (none_of p there)) h.done) (gives ∙ same) in
        record { long = long ∙ h.long; read = read_after old new h.read stays kept; done = done; rest = grind (arith, stays, h.rest, flat_map-append, sum_by-append) }

    weak_resolved : list_all is_weak_resolved (weak_classes s.sos (at_indexes L classes s.places)) ≡ true
    weak_resolved = weak_classes-resolved s.sos (at_indexes L classes s.places) next.sos explicit_kept

    pub IsWeakNext-from : (old new : List BidiClass) → IsUnderWay seqs old → length new ≡ length old → StaysElsewhere s.places old new
        → at_indexes L new s.places ≡ weak_classes s.sos (at_indexes L old s.places) → IsWeakNext seqs s new
    IsWeakNext-from old new h long stays weak =
        let answer : at_indexes L new s.places ≡ weak_classes s.sos (at_indexes L classes s.places) =
        cc (weak, unchanged old h) in
        let read = read_after old new h.read stays (all_read is_weak_resolved (λ c resolved. grind arith) (at_indexes L new s.places) (ap (list_all is_weak_resolved) answer ∙ weak_resolved)) in
        let done = HaveLevels-kept old new seqs (λ p there. stays p (none_of p there)) h.done in
        record { long = long ∙ h.long; read = read; done = done; weak = answer; rest = grind (arith, stays, h.rest) }

    -- so N0 to N2 can go on
    pub weak_next-resolved : (now : List BidiClass) → IsWeakNext seqs s now → list_all is_weak_resolved (at_indexes L now s.places) ≡ true
    weak_next-resolved now h = ap (list_all is_weak_resolved) h.weak ∙ weak_resolved

    pub IsUnderWay-more : (old new : List BidiClass) → IsWeakNext seqs s old → length new ≡ length old → StaysElsewhere s.places old new
        → map (n2_rule (direction_of (own_level s))) (at_indexes L new s.places) ≡ neutral_classes (level_at levels (first_or 0 s.places)) s.sos s.eos (at_indexes L source_classes s.places) (at_indexes None brackets s.places) (at_indexes L old s.places)
        → IsUnderWay (seqs ++ s ∷ []) new
    IsUnderWay-more old new h long stays neutral =
        let answer : map (n2_rule (direction_of (own_level s))) (at_indexes L new s.places) ≡ resolved_classes s = grind (arith, neutral, h.weak) in
        let directed : list_all has_direction (map (n2_rule (direction_of (own_level s))) (at_indexes L new s.places)) ≡ true = grind (arith, answer, neutral_classes-directed, next.sos, weak_resolved) in
        let read = read_after old new h.read stays (all_read (λ c. has_direction (n2_rule (direction_of (own_level s)) c)) (λ c known. grind arith) (at_indexes L new s.places) (rw list_all-map at directed)) in
        let done = HaveLevels-push new seqs s (HaveLevels-kept old new seqs (λ p there. stays p (none_of p there)) h.done)
        (implicit_levels-n2 (own_level s) (at_indexes L new s.places) ∙ ap (implicit_levels (own_level s)) answer) in
        record { long = long ∙ h.long; read = read; done = done; rest = grind (arith, stays, h.rest, flat_map-append, sum_by-append) }

  -- ---- the levels

  implicit_levels-at : (level : ℕ) (new : List ℕ) (now : List BidiClass) (ps : List ℕ)
      → ((p : ℕ) → 0 < times_in ps p → level_at new p ≡ implicit_level level (class_at now p))
      → at_indexes 0 new ps ≡ implicit_levels level (at_indexes L now ps)
  implicit_levels-at level new now [] each = refl
  implicit_levels-at level new now (p ∷ ps) each = grind (arith, each, times_in-first p ps, implicit_levels-at level new now ps, times_in-later p ps)

  -- all characters of the sequence have the level of its first one
  abbrev pub HasOneLevel : RunSequence → Type 0
  HasOneLevel s = (p : ℕ) → 0 < times_in s.places p → level_at levels p ≡ level_at levels (first_or 0 s.places)

  -- once all of some sequences are resolved, the implicit levels are theirs
  pub AreResolved-from : (new : List ℕ) (now : List BidiClass) (seqs : List RunSequence) → HaveLevels now seqs → ((k : ℕ) (d : RunSequence) → k < length seqs → HasOneLevel (get_or seqs k d))
      → ((p : ℕ) → 0 < times_in (places_of seqs) p → level_at new p ≡ implicit_level (level_at levels p) (class_at now p)) → AreResolved source_classes brackets levels classes new seqs
  unfolding resolved_levels
  AreResolved-from new now [] h one implicit = tt
  AreResolved-from new now (s ∷ seqs) h one implicit =
      let later : (k : ℕ) (d : RunSequence) → k < length seqs → HasOneLevel (get_or seqs k d) = λ k d within. one (suc k) d (omega arith) in
      grind (arith, one 0 s, later, implicit, implicit_levels-at (level_at levels (first_or 0 s.places)) new now s.places, AreResolved-from new now seqs, sum_by-append)

  pub AreResolved-filter : (new : List ℕ) (test : RunSequence → Bool) (seqs : List RunSequence)
      → AreResolved source_classes brackets levels classes new seqs → AreResolved source_classes brackets levels classes new (filter test seqs)
  AreResolved-filter new test [] h = tt
  AreResolved-filter new test (s ∷ seqs) h = grind (arith, AreResolved-filter new test seqs)

-- ---- the sequences of a paragraph

-- X1 to X8 come first
pub IsUnderWay-start : (para_level : ℕ) (source_classes : List BidiClass) (brackets : List (Option BidiMatchedOpeningBracket)) (stored : List BidiClass) (levels : List ℕ)
    → IsUnderWay source_classes brackets stored levels (explicit_classes para_level stored) [] (processing_classes para_level stored)
unfolding processing_class
IsUnderWay-start para_level source_classes brackets stored levels =
    grind (arith, length-processing_classes, class_at-processing_classes, class_at-explicit_classes, is_kept_in_place-kept, explicit_class-kept)

filter-at : {X : Type 0} (test : X → Bool) (xs : List X) (k : ℕ) (d : X) → k < length xs → test (get_or xs k d) ≡ true
    → (j : ℕ) × (j < length (filter test xs)) × (get_or (filter test xs) j d ≡ get_or xs k d)
filter-at test [] k d within passes = absurd (omega arith)
filter-at test (x ∷ xs) zero d within passes = simp passes (0, omega arith, refl)
filter-at test (x ∷ xs) (suc k) d within passes =
    let later = filter-at test xs k d (omega arith) passes in
    elim (cases_Bool (test x)) [ inl here ↦ simp here (suc later.0, omega (arith, later.1), later.2) | inr gone ↦ simp gone later ]

places_of-filter : (seqs : List RunSequence) → places_of (filter has_places seqs) ≡ places_of seqs
places_of-filter [] = refl
places_of-filter (s ∷ seqs) = grind (arith, nat_tests, nil_from_length s.places, places_of-filter seqs)

module _ (para_level : ℕ) (stored : List BidiClass) (seqs : List RunSequence) (are : filter has_places seqs ≡ sequences para_level stored (explicit_levels para_level stored)) where
  abbrev levels : List ℕ
  levels = explicit_levels para_level stored

  same_places : places_of seqs ≡ places_of (sequences para_level stored levels)
  same_places = sym (places_of-filter seqs) ∙ ap places_of are

  -- the k-th one has the level of its first character
  one_level : (k : ℕ) (d : RunSequence) → k < length seqs → HasOneLevel [] [] stored levels [] (get_or seqs k d)
  one_level k d within = λ p there.
      let found = filter-at has_places seqs k d within (lt-ltb 0 (length (get_or seqs k d).places) (omega (arith, there, count_by-le-length (λ q. eqb q p) (get_or seqs k d).places))) in
      let is : get_or (sequences para_level stored levels) found.0 d ≡ get_or seqs k d = rw are at found.2 in
      (rw is at (sequence-one_level para_level stored found.0 d (omega (arith, found.1, ap length are)) p)) there

  pub IsNext-at : (source_classes : List BidiClass) (brackets : List (Option BidiMatchedOpeningBracket)) (k : ℕ) (d : RunSequence) → k < length seqs → is_l_or_r (get_or seqs k d).sos ≡ true
      → IsNext source_classes brackets stored levels (explicit_classes para_level stored) (take k seqs) (get_or seqs k d)
  IsNext-at source_classes brackets k d within side =
      let parts = λ (p : ℕ). times_in-parts (λ (s : RunSequence). s.places) seqs k d p within in
      let once = λ (p : ℕ). sequences-once para_level stored levels p in
      let same = λ (p : ℕ). ap (λ (ps : List ℕ). times_in ps p) same_places in
      let kept : (p : ℕ) → 0 < times_in (get_or seqs k d).places p → (is_kept_at stored p ≡ true) × (p < length stored) = λ p there. sequences-kept para_level stored levels p (omega (arith, parts p, same p)) in
      let apart : (p : ℕ) → 0 < times_in (get_or seqs k d).places p → times_in (places_of (take k seqs)) p ≡ 0 = λ p there. omega (arith, parts p, once p, same p) in
      record { sos = side; kept = kept; apart = apart; explicit = grind (arith, kept, explicit_classes-kept para_level stored) }

  -- once all are resolved, the implicit levels are those of the rules
  pub AreResolved-all : (source_classes : List BidiClass) (brackets : List (Option BidiMatchedOpeningBracket)) (now : List BidiClass) (new : List ℕ)
      → IsUnderWay source_classes brackets stored levels (explicit_classes para_level stored) seqs now
      → ((p : ℕ) → p < length stored → level_at new p ≡ implicit_level (level_at levels p) (class_at now p))
      → AreResolved source_classes brackets levels (explicit_classes para_level stored) new (sequences para_level stored levels)
  AreResolved-all source_classes brackets now new h implicit =
      rw (← are) (AreResolved-filter source_classes brackets stored levels (explicit_classes para_level stored) new has_places seqs
      (AreResolved-from source_classes brackets stored levels (explicit_classes para_level stored) new now seqs h.done one_level
      (λ p there. implicit p (sequences-kept para_level stored levels p (rw same_places at there)).1)))
