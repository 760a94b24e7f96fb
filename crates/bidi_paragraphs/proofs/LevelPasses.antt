-- The passes over the units of a paragraph, put together: what they leave once some sequences are resolved, and once
-- all are.
use Rattle.bidi_base.proofs.Common.{◌≡◌, ℕ, Range, bounds, take_all, zero, suc, ◌+◌, ◌<◌, ◌≤◌, true, false, List, [], ◌∷◌, ◌++◌, length, get_or, take, map, Option, None, refl, sym, ap, ◌∙◌, arith}
use Rattle.bidi_base.proofs.Common.{filter, list_all, length-map, get_or-map, get_or_default, get_or-append_seam, take-append_seam, length-append, map-append, is_kept, is_kept_in_place, is_l_or_r}
use Rattle.bidi_base.proofs.Common.{length-replicate, nil_from_length, get_or-zip, length-zip, is_weak_resolved, at_indexes, first_or, stored_classes, explicit_levels, explicit_classes}
use Rattle.bidi_base.proofs.Common.{processing_classes, RunSequence, level_at, has_places, sequences, weak_classes, direction_of, n2_rule, neutral_classes, implicit_level, AreResolved, text_len}
use Rattle.bidi_base.proofs.Common.{unit_index, is_per_char, per_unit, per_char, AreLines, kept_in_runs, kept_in_place, zip, replicate}
use Rattle.std.specs.List.{All}
use Rattle.bidi_base.specs.InPlace.{IsInPlace}
use Rattle.bidi_base.specs.declared.char_data.BidiClass.{BidiClass}
use Rattle.bidi_base.specs.declared.char_data.BidiClass.TheVariants.{L}
use Rattle.bidi_base.specs.declared.data_source.BidiMatchedOpeningBracket.{BidiMatchedOpeningBracket}
use Rattle.bidi_laws.proofs.ExplicitLemmas.{length-explicit_levels}
use Rattle.bidi_laws.proofs.LevelLaws.{All-per_unit}
use Rattle.bidi_text.proofs.PerCharTests.{class_eq, class_test, level_eq, level_test}
use Rattle.bidi_base.proofs.PerUnit.{length-per_char, length-per_unit, map-per_unit, per_char-per_unit}
use Rattle.bidi_laws.proofs.StoredSteps.{length-stored_classes}
use Rattle.bidi_base.proofs.TextLemmas.{HasUnits}
use Rattle.bidi_base.proofs.UnitsLemmas.{per_unit-from_is_per_char, is_per_char-per_unit}
use Rattle.bidi_laws.proofs.NeutralSource.{neutral_classes-source, marks-stored_classes}
use Rattle.bidi_laws.proofs.StoredLemmas.{explicit_levels-IsExplicitIn}
use Rattle.bidi_explicit.specs.Joining.{JoinedRuns, characters_of}
use Rattle.bidi_explicit.specs.Links.{begins, sequence_at, sequences_before, linked_runs, linked_sequences, sequences_of, AreLinked}
use Rattle.bidi_explicit.specs.declared.prepare.links.RunLinks.{RunLinks}
use Rattle.bidi_explicit.proofs.LinkedSequences.{IsPart, linked_sequences-part, sequences_before-more, sequences_before-same}
use Rattle.bidi_paragraphs.proofs.OneLevel.{GiveLevels, KeepLevels}
use Rattle.bidi_paragraphs.proofs.SequencesInPlace.{IsUnderWay, IsNext, IsWeakNext, IsWeakNext-from, weak_next-resolved, IsUnderWay-more, IsUnderWay-known, IsUnderWay-start, IsUnderWay-written, kept_before, IsNext-at, AreResolved-all}
use Rattle.bidi_paragraphs.proofs.SequenceUnits.{at_indexes-map, at_indexes-unit_index, level_at-first, kept_in_place-kept, kept_in_runs-within, stays_elsewhere}

-- two values for each unit
zip-append : {X Y : Type 0} (vs ws : List X) (xs ys : List Y) → length vs ≡ length xs → zip (vs ++ ws) (xs ++ ys) ≡ zip vs xs ++ zip ws ys
zip-append [] ws xs ys long = grind (arith, nil_from_length)
zip-append (v ∷ vs) ws [] ys long = absurd (omega arith)
zip-append (v ∷ vs) ws (x ∷ xs) ys long = grind (arith, zip-append vs ws xs ys)

zip-replicate : {X Y : Type 0} (n : ℕ) (x : X) (y : Y) → zip (replicate n x) (replicate n y) ≡ replicate n (x, y)
zip-replicate zero x y = refl
zip-replicate (suc n) x y = ap (λ es. (x, y) ∷ es) (zip-replicate n x y)

zip-per_unit : {X Y : Type 0} (len_of : ℕ → ℕ) (chars : List ℕ) (xs : List X) (ys : List Y) → zip (per_unit len_of chars xs) (per_unit len_of chars ys) ≡ per_unit len_of chars (zip xs ys)
zip-per_unit len_of [] xs ys = refl
zip-per_unit len_of (c ∷ chars) [] ys = refl
zip-per_unit len_of (c ∷ chars) (x ∷ xs) [] = nil_from_length _ (grind (arith, length-zip))
zip-per_unit len_of (c ∷ chars) (x ∷ xs) (y ∷ ys) =
    simp (zip-append, length-replicate, zip-replicate, zip-per_unit len_of chars xs ys)

module _ (len_of : ℕ → ℕ) (h : HasUnits len_of) (chars : List ℕ) (source_classes : List BidiClass) (bracket_of : ℕ → Option BidiMatchedOpeningBracket) (para_level : ℕ) where
  abbrev stored : List BidiClass
  stored = stored_classes source_classes

  abbrev brackets : List (Option BidiMatchedOpeningBracket)
  brackets = map bracket_of chars

  abbrev levels : List ℕ
  levels = explicit_levels para_level stored

  abbrev classes : List BidiClass
  classes = explicit_classes para_level stored

  -- the characters of runs that were joined, and of a sequence
  abbrev members : JoinedRuns → RunSequence
  members s = characters_of len_of chars stored s

  -- the units have the classes of characters of which these sequences are resolved
  pub record AreResolvedTo (seqs : List RunSequence) (units : List BidiClass) : Type 0 where
    pub values : List BidiClass
    pub is : units ≡ per_unit len_of chars values
    pub under_way : IsUnderWay source_classes brackets stored levels classes seqs values

  -- and the weak types of one more
  pub record AreWeakTo (seqs : List RunSequence) (s : JoinedRuns) (units : List BidiClass) : Type 0 where
    pub values : List BidiClass
    pub is : units ≡ per_unit len_of chars values
    pub next : IsWeakNext source_classes brackets stored levels classes seqs (members s) values

  stored_read : (original_classes : List BidiClass) → length source_classes ≡ length chars → original_classes ≡ per_unit len_of chars stored → per_char L len_of chars original_classes ≡ stored
  stored_read original_classes fits is = simp (is, per_char-per_unit len_of h L chars stored (length-stored_classes source_classes ∙ fits))

  pub AreResolvedTo-start : (original_classes classes : List BidiClass) → length source_classes ≡ length chars → original_classes ≡ per_unit len_of chars stored
      → classes ≡ per_unit len_of chars (processing_classes para_level (per_char L len_of chars original_classes)) → AreResolvedTo [] classes
  AreResolvedTo-start original_classes classes fits original_is is =
      let read = simp (stored_read original_classes fits original_is) at is in
      record { values = processing_classes para_level stored; is = read; under_way = IsUnderWay-start para_level source_classes brackets stored levels }

  -- units that did not change
  pub AreResolvedTo-same : (seqs : List RunSequence) (old new : List BidiClass) → new ≡ old → AreResolvedTo seqs old → AreResolvedTo seqs new
  AreResolvedTo-same seqs old new same now = rw same now

  -- they have one entry for each code unit, equal within each character
  pub AreResolvedTo-per_char : (seqs : List RunSequence) (classes : List BidiClass) → length source_classes ≡ length chars → AreResolvedTo seqs classes → is_per_char class_eq len_of chars classes ≡ true
  AreResolvedTo-per_char seqs classes fits now = grind (arith, is_per_char-per_unit, class_test, length-stored_classes)

  pub AreResolvedTo-long : (seqs : List RunSequence) (classes : List BidiClass) → length source_classes ≡ length chars → AreResolvedTo seqs classes → length classes ≡ text_len len_of chars
  AreResolvedTo-long seqs classes fits now = grind (arith, length-per_unit, length-stored_classes)

  module _ (fits : length source_classes ≡ length chars) (seqs : List RunSequence) (s : JoinedRuns) (lines : AreLines len_of chars (s.runs))
      (next : IsNext source_classes brackets stored levels classes seqs (members s)) where
    abbrev runs : List (ℕ × ℕ)
    runs = s.runs

    abbrev ps : List ℕ
    ps = kept_in_runs len_of chars stored runs

    within : (p : ℕ) → p < length chars → p < length stored
    within p there = omega (arith, there, fits, length-stored_classes source_classes)

    as_long : (values : List BidiClass) → length values ≡ length stored → length values ≡ length chars
    as_long values long = long ∙ length-stored_classes source_classes ∙ fits

    -- its characters, their classes and their level, by its code units
    module _ (units : List BidiClass) (now : AreResolvedTo seqs units) where
      characters_are : kept_in_place len_of chars units runs ≡ ps
      characters_are =
          kept_in_place-kept len_of h chars stored now.values units runs (as_long now.values now.under_way.long) now.is (λ p there. now.under_way.read p (within p there))

      classes_are : at_indexes L units (map (unit_index len_of chars) ps) ≡ at_indexes L now.values ps
      classes_are = at_indexes-unit_index len_of h chars L now.values units ps (as_long now.values now.under_way.long) now.is (kept_in_runs-within len_of h chars stored runs)

      pub kept_of_units : list_all is_kept (at_indexes L units (map (unit_index len_of chars) (kept_in_place len_of chars units runs))) ≡ true
      kept_of_units = rw (characters_are, classes_are) (kept_before source_classes brackets stored levels classes seqs (members s) next now.values now.under_way)

      -- nothing is to be done
      pub AreResolvedTo-known : (unit_levels : List ℕ) → unit_levels ≡ per_unit len_of chars levels
          → (let places = map (unit_index len_of chars) (kept_in_place len_of chars units runs) in
          KeepLevels (level_at unit_levels (first_or 0 places)) s.sos s.eos (at_indexes L source_classes ps) (at_indexes None brackets ps) (at_indexes L units places))
          → AreResolvedTo (seqs ++ members s ∷ []) units
      AreResolvedTo-known unit_levels levels_is keeps =
          let level_is = level_at-first len_of h chars levels unit_levels ps (length-explicit_levels para_level stored ∙ as_long stored refl) levels_is (kept_in_runs-within len_of h chars stored runs) in
          let read = rw (characters_are, classes_are, level_is) at keeps in
          record { values = now.values; is = now.is; under_way = IsUnderWay-known source_classes brackets stored levels classes seqs (members s) next now.values now.under_way read }

    -- no more is to be done than to write some classes
    pub AreResolvedTo-written : (old new : List BidiClass) (unit_levels : List ℕ) → AreResolvedTo seqs old → unit_levels ≡ per_unit len_of chars levels
        → list_all is_kept_in_place (at_indexes L new (map (unit_index len_of chars) (kept_in_place len_of chars old runs))) ≡ true
        → (let places = map (unit_index len_of chars) (kept_in_place len_of chars old runs) in
        GiveLevels (level_at unit_levels (first_or 0 places)) s.sos s.eos (at_indexes L source_classes ps) (at_indexes None brackets ps) (at_indexes L old places) (at_indexes L new places))
        → IsInPlace len_of chars runs old new → AreResolvedTo (seqs ++ members s ∷ []) new
    AreResolvedTo-written old new unit_levels now levels_is kept gives place =
        let values = per_char L len_of chars new in
        let is = per_unit-from_is_per_char class_eq class_test L len_of h chars new place.per_char in
        let old_long = as_long now.values now.under_way.long in
        let new_long = length-per_char L len_of chars new in
        let within_text = kept_in_runs-within len_of h chars stored runs in
        let stays = stays_elsewhere len_of h chars stored now.values values old new runs lines old_long new_long now.is is (λ p there. now.under_way.read p (within p there)) place.removed place.outside in
        let written : at_indexes L new (map (unit_index len_of chars) ps) ≡ at_indexes L values ps = at_indexes-unit_index len_of h chars L values new ps new_long is within_text in
        let level_is = level_at-first len_of h chars levels unit_levels ps (length-explicit_levels para_level stored ∙ as_long stored refl) levels_is within_text in
        let read = rw (characters_are old now, written) at kept in
        let same = rw (characters_are old now, classes_are old now, written, level_is) at gives in
        record { values = values; is = is; under_way = IsUnderWay-written source_classes brackets stored levels classes seqs (members s) next now.values values now.under_way (new_long ∙ sym old_long) stays read same }

    -- W1 to W7
    pub AreWeakTo-from : (old new : List BidiClass) → AreResolvedTo seqs old
        → at_indexes L new (map (unit_index len_of chars) (kept_in_place len_of chars old runs)) ≡ weak_classes s.sos (at_indexes L old (map (unit_index len_of chars) (kept_in_place len_of chars old runs)))
        → IsInPlace len_of chars runs old new → AreWeakTo seqs s new
    AreWeakTo-from old new now kept place =
        let values = per_char L len_of chars new in
        let is = per_unit-from_is_per_char class_eq class_test L len_of h chars new place.per_char in
        let old_long = as_long now.values now.under_way.long in
        let new_long = length-per_char L len_of chars new in
        let stays = stays_elsewhere len_of h chars stored now.values values old new runs lines old_long new_long now.is is (λ p there. now.under_way.read p (within p there)) place.removed place.outside in
        let next = IsWeakNext-from source_classes brackets stored levels classes seqs (members s) next now.values values now.under_way (new_long ∙ sym old_long) stays
        (grind (
          arith,
          kept_in_place-kept len_of h chars stored now.values old runs,
          kept_in_runs-within len_of h chars stored runs,
          at_indexes-unit_index len_of h chars L values new ps,
          at_indexes-unit_index len_of h chars L now.values old ps,
          within,
        )) in
        record { values = values; is = is; next = next }

    -- so N0 to N2 can go on
    pub AreWeakTo-resolved : (units : List BidiClass) → AreWeakTo seqs s units → list_all is_weak_resolved (at_indexes L units (map (unit_index len_of chars) (kept_in_place len_of chars units runs))) ≡ true
    AreWeakTo-resolved units now =
        let resolved = weak_next-resolved source_classes brackets stored levels classes seqs (members s) next now.values now.next in
        grind (
          arith,
          kept_in_place-kept len_of h chars stored now.values units runs,
          at_indexes-unit_index len_of h chars L now.values units ps,
          kept_in_runs-within len_of h chars stored runs,
          within,
          as_long,
          resolved,
        )

    -- N0 to N2
    pub AreResolvedTo-more : (old new original_classes : List BidiClass) (unit_levels : List ℕ) → original_classes ≡ per_unit len_of chars stored → unit_levels ≡ per_unit len_of chars levels → AreWeakTo seqs s old
        → map (n2_rule (direction_of (level_at unit_levels (first_or 0 (map (unit_index len_of chars) (kept_in_place len_of chars old runs)))))) (at_indexes L new (map (unit_index len_of chars) (kept_in_place len_of chars old runs)))
        ≡ neutral_classes (level_at unit_levels (first_or 0 (map (unit_index len_of chars) (kept_in_place len_of chars old runs)))) s.sos s.eos
        (at_indexes L original_classes (map (unit_index len_of chars) (kept_in_place len_of chars old runs))) (map bracket_of (at_indexes 0 chars (kept_in_place len_of chars old runs))) (at_indexes L old (map (unit_index len_of chars) (kept_in_place len_of chars old runs)))
        → IsInPlace len_of chars runs old new → AreResolvedTo (seqs ++ members s ∷ []) new
    AreResolvedTo-more old new original_classes unit_levels original_is levels_is now kept place =
        let values = per_char L len_of chars new in
        let is = per_unit-from_is_per_char class_eq class_test L len_of h chars new place.per_char in
        let old_long = as_long now.values now.next.long in
        let new_long = length-per_char L len_of chars new in
        let own = λ (values : List BidiClass) (units : List BidiClass). at_indexes-unit_index len_of h chars L values units ps in
        let stays = stays_elsewhere len_of h chars stored now.values values old new runs lines old_long new_long now.is is (λ p there. now.next.read p (within p there)) place.removed place.outside in
        let under_way = IsUnderWay-more source_classes brackets stored levels classes seqs (members s) next now.values values now.next (new_long ∙ sym old_long) stays
        (grind (
          arith,
          kept_in_place-kept len_of h chars stored now.values old runs,
          kept_in_runs-within len_of h chars stored runs,
          level_at-first len_of h chars levels unit_levels ps,
          length-explicit_levels,
          as_long stored refl,
          own values new,
          own now.values old,
          own stored original_classes,
          at_indexes-map,
          neutral_classes-source,
          marks-stored_classes,
          within,
        )) in
        record { values = values; is = is; under_way = under_way }

  -- ---- I1 and I2 once all are resolved

  pub record AreLevels (new : List ℕ) : Type 0 where
    pub even : is_per_char level_eq len_of chars new ≡ true
    pub resolved : AreResolved source_classes brackets levels classes (per_char 0 len_of chars new) (sequences para_level stored levels)

  pub AreLevels-all : (seqs : List RunSequence) (classes : List BidiClass) (unit_levels new : List ℕ) → length source_classes ≡ length chars → unit_levels ≡ per_unit len_of chars levels
      → filter has_places seqs ≡ sequences para_level stored levels → AreResolvedTo seqs classes → new ≡ map (λ (e : ℕ × BidiClass). implicit_level e.0 e.1) (zip unit_levels classes) → AreLevels new
  AreLevels-all seqs classes unit_levels new fits levels_is sequences_are now is =
      let of_chars : List ℕ = map (λ (e : ℕ × BidiClass). implicit_level e.0 e.1) (zip levels now.values) in
      let long : length of_chars ≡ length chars = grind (
        arith,
        length-map,
        length-zip,
        now.under_way.long,
        length-explicit_levels,
        length-stored_classes,
      ) in
      let whole : new ≡ per_unit len_of chars of_chars = simp (is, now.is, levels_is, zip-per_unit, map-per_unit) in
      let resolved = AreResolved-all para_level stored seqs sequences_are source_classes brackets now.values of_chars now.under_way
      (λ p within. grind (
        arith,
        get_or-map,
        get_or-zip levels now.values p (0, L),
        length-zip levels now.values,
        length-stored_classes,
        length-explicit_levels,
        now.under_way.long,
      )) in
      grind (
        arith,
        whole,
        long,
        is_per_char-per_unit level_eq level_test len_of chars of_chars,
        per_char-per_unit len_of h 0 chars of_chars,
        resolved,
      )

  -- ---- what X1 to X10 leave

  pub record ArePrepared (original_classes : List BidiClass) (unit_levels : List ℕ) (out : List JoinedRuns) : Type 0 where
    pub fits : length source_classes ≡ length chars
    pub original_is : original_classes ≡ per_unit len_of chars stored
    pub levels_is : unit_levels ≡ per_unit len_of chars levels
    pub sequences_are : sequences_of len_of chars stored out ≡ sequences para_level stored levels
    pub lines : All (λ (s : JoinedRuns). AreLines len_of chars s.runs) out

  pub prepared : (original_classes : List BidiClass) (unit_levels : List ℕ) (out : List JoinedRuns) → length source_classes ≡ length chars → original_classes ≡ per_unit len_of chars stored
      → unit_levels ≡ per_unit len_of chars (explicit_levels para_level (per_char L len_of chars original_classes))
      → sequences_of len_of chars (per_char L len_of chars original_classes) out ≡ sequences para_level (per_char L len_of chars original_classes) (explicit_levels para_level (per_char L len_of chars original_classes))
      → All (λ (s : JoinedRuns). AreLines len_of chars s.runs) out → ArePrepared original_classes unit_levels out
  prepared original_classes unit_levels out fits is levels_is sequences_are lines = grind (arith, stored_read original_classes)

  module _ (original_classes : List BidiClass) (unit_levels : List ℕ) (links : RunLinks) (runs : List (ℕ × ℕ)) (ready : ArePrepared original_classes unit_levels (linked_sequences links runs)) where
    -- the sequences that begin before the run at r
    abbrev pub resolved_before : ℕ → List RunSequence
    resolved_before r = map (characters_of len_of chars stored) (sequences_before links runs r)

    -- the one that begins with it
    module _ (r : ℕ) (s : JoinedRuns) (within : r < length runs) (here : begins links r ≡ true) (is : s ≡ sequence_at links runs r) where
      part : IsPart links runs r
      part = linked_sequences-part links runs r within here

      all_are : map (characters_of len_of chars stored) (linked_sequences links runs) ≡ resolved_before r ++ characters_of len_of chars stored s ∷ map (characters_of len_of chars stored) part.after
      all_are = simp (part.is, map-append, is)

      pub prepared-next : is_l_or_r s.sos ≡ true
          → IsNext source_classes brackets stored levels classes (map (characters_of len_of chars stored) (sequences_before links runs r)) (characters_of len_of chars stored s)
      prepared-next side =
          let k : ℕ = length (resolved_before r) in
          let m : RunSequence = characters_of len_of chars stored s in
          let rest : List RunSequence = map (characters_of len_of chars stored) part.after in
          let seqs : List RunSequence = map (characters_of len_of chars stored) (linked_sequences links runs) in
          let at : get_or seqs k m ≡ m = ap (λ (qs : List RunSequence). get_or qs k m) all_are ∙ get_or-append_seam (resolved_before r) m rest m in
          let first : take k seqs ≡ resolved_before r = ap (take k) all_are ∙ take-append_seam (resolved_before r) (m ∷ rest) in
          let low : k < length seqs = omega (arith, ap length all_are, length-append (resolved_before r) (m ∷ rest)) in
          rw (first, at) at (IsNext-at para_level stored seqs ready.sequences_are source_classes brackets k m low (ap (λ (q : RunSequence). is_l_or_r q.sos) at ∙ side))

      pub prepared-lines : AreLines len_of chars s.runs
      prepared-lines =
          let k : ℕ = length (sequences_before links runs r) in
          let out : linked_sequences links runs ≡ sequences_before links runs r ++ s ∷ part.after = simp (part.is, is) in
          let at : get_or (linked_sequences links runs) k s ≡ s = ap (λ (qs : List JoinedRuns). get_or qs k s) out ∙ get_or-append_seam (sequences_before links runs r) s part.after s in
          rw at at (ready.lines k s (omega (arith, ap length out, length-append (sequences_before links runs r) (s ∷ part.after))))

      pub prepared-more : map (characters_of len_of chars stored) (sequences_before links runs (r + 1)) ≡ map (characters_of len_of chars stored) (sequences_before links runs r) ++ characters_of len_of chars stored s ∷ []
      prepared-more = simp (sequences_before-more links runs r here, map-append, is)

    pub prepared-same : (r : ℕ) → begins links r ≡ false
        → map (characters_of len_of chars stored) (sequences_before links runs (r + 1)) ≡ map (characters_of len_of chars stored) (sequences_before links runs r)
    prepared-same r other = ap (map (characters_of len_of chars stored)) (sequences_before-same links runs r other)

    pub prepared-long : length unit_levels ≡ text_len len_of chars
    prepared-long = simp (ready.levels_is, length-per_unit len_of chars levels (length-explicit_levels para_level stored ∙ length-stored_classes source_classes ∙ ready.fits))

    pub prepared-low : para_level ≤ 125 → All (λ (n : ℕ). n ≤ 125) unit_levels
    prepared-low fits =
        rw ready.levels_is (All-per_unit (λ (n : ℕ). n ≤ 125) len_of chars levels
        (λ k d within. grind (arith, get_or_default levels k 0 d, explicit_levels-IsExplicitIn para_level stored k, length-explicit_levels)))

    pub AreLevels-from : (r : ℕ) (classes : List BidiClass) (new : List ℕ) → r ≡ length runs
        → AreResolvedTo (map (characters_of len_of chars stored) (sequences_before links runs r)) classes
        → new ≡ map (λ (e : ℕ × BidiClass). implicit_level e.0 e.1) (zip unit_levels classes) → AreLevels new
    unfolding linked_sequences
    AreLevels-from r classes new all now is =
        AreLevels-all (map (characters_of len_of chars stored) (sequences_before links runs r)) classes unit_levels new ready.fits ready.levels_is
        (ap (λ (k : ℕ). filter has_places (map (characters_of len_of chars stored) (sequences_before links runs k))) all ∙ ready.sequences_are) now is

-- the runs that were linked are all of a list
pub linked_runs-all : (links : RunLinks) (runs : List (Range ℕ)) → AreLinked links (map bounds runs) → linked_runs links runs ≡ map bounds runs
linked_runs-all links runs linked = ap (map bounds) (take_all (length links.next.items) runs (omega (arith, linked.all_next, length-map runs bounds)))
