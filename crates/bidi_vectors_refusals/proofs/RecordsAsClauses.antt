-- The records of the passes over code units, and the clauses that they mean, in the words of the definitions.
use Rattle.bidi_base.proofs.Common.{◌≡◌, ◌↔◌, ℕ, false, List, map, IsTrue, refl, Result, Ok, Err, OnOk, OnErr, explicit_levels, processing_classes, AreExplicitLevels, AreWeakTypesResolved}
use Rattle.bidi_base.proofs.Common.{AreNeutralsResolved, neutral_classes, at_indexes, class_at, first_or, level_at, Source, is_per_char, per_char, per_unit, unit_index, in_runs, kept_in_place}
use Rattle.bidi_base.proofs.Common.{level_run_ranges, weak_classes, Option}
use Rattle.std.specs.Prelude.{IfOk}
use Rattle.bidi_base.specs.declared.char_data.BidiClass.{BidiClass}
use Rattle.bidi_base.specs.declared.char_data.BidiClass.TheVariants.{L, BN}
use Rattle.bidi_text.proofs.PerCharTests.{class_eq}
use Rattle.bidi_base.specs.InPlace.{IsDoneOrUnchanged}
use Rattle.unicode_bidi.specs.Analysis.{Constructs, ObeysLaws}

module _ (len_of : ℕ → ℕ) (chars : List ℕ) where
  -- the explicit pass
  pub explicit-clauses : (para_level : ℕ) (original_classes : List BidiClass) (levels : List ℕ) (classes : List BidiClass) (runs : List (ℕ × ℕ)) →
      let stored = per_char L len_of chars original_classes in
      AreExplicitLevels len_of chars para_level original_classes levels classes runs
      ↔ (levels ≡ per_unit len_of chars (explicit_levels para_level stored))
      × (classes ≡ per_unit len_of chars (processing_classes para_level stored))
      × (runs ≡ level_run_ranges len_of chars stored (explicit_levels para_level stored))
  explicit-clauses para_level original_classes levels classes runs =
      (λ all. (all.levels, all.classes, all.runs), λ all. record { levels = all.0; classes = all.1; runs = all.2 })

  module _ (runs : List (ℕ × ℕ)) (sos eos : BidiClass) (old new : List BidiClass) where
    abbrev places : List ℕ
    places = map (unit_index len_of chars) (kept_in_place len_of chars old runs)

    -- the weak pass
    pub weak-clauses : AreWeakTypesResolved len_of chars runs sos old new
        ↔ (at_indexes L new places ≡ weak_classes sos (at_indexes L old places))
        × ((u : ℕ) → class_at old u ≡ BN → class_at new u ≡ BN)
        × ((u : ℕ) → in_runs runs u ≡ false → class_at new u ≡ class_at old u)
        × IsTrue (is_per_char class_eq len_of chars new)
    weak-clauses =
        (λ all. (all.kept, all.in_place.removed, all.in_place.outside, all.in_place.per_char), λ all. record { kept = all.0; in_place = record { removed = all.1; outside = all.2; per_char = all.3 } })

    -- the neutral pass: if an allocation fails, the classes are unchanged, so that all clauses but the first hold too
    pub neutral-clauses : {A E : Type 0} (result : Result A E) (source : Source) (levels : List ℕ) (original_classes : List BidiClass)
        → IsTrue (is_per_char class_eq len_of chars old) → OnErr result (new ≡ old)
        → OnOk result (AreNeutralsResolved len_of chars source runs sos eos levels original_classes old new)
        → OnOk result (at_indexes L new places
        ≡ neutral_classes (level_at levels (first_or 0 places)) sos eos (at_indexes L original_classes places) (map source.bracket_of (at_indexes 0 chars (kept_in_place len_of chars old runs))) (at_indexes L old places))
        × ((u : ℕ) → class_at old u ≡ BN → class_at new u ≡ BN)
        × ((u : ℕ) → in_runs runs u ≡ false → class_at new u ≡ class_at old u)
        × IsTrue (is_per_char class_eq len_of chars new)
    neutral-clauses (Ok a) source levels original_classes per refused all = (all.kept, all.in_place.removed, all.in_place.outside, all.in_place.per_char)
    neutral-clauses (Err e) source levels original_classes per refused all = (
      tt,
      λ u gone. rw refused gone,
      λ u out. rw refused refl,
      rw refused per,
    )

-- a pass that may fail
pub done-clauses : {A E : Type 0} (result : Result A E) (done : Type 0) (old new : List BidiClass)
    → IsDoneOrUnchanged result done old new ↔ OnOk result done × OnErr result (new ≡ old)
done-clauses result done old new = (λ all. (all.resolved, all.unchanged), λ all. record { resolved = all.0; unchanged = all.1 })

-- a constructor
pub constructor-clauses : {I E : Type 0} (source : Source) (base_level : Option ℕ) (text_of : I → List ℕ) (units : List ℕ) (is_analysis : I → Type 0) (result : Result I E)
    → Constructs source base_level text_of units is_analysis result
    ↔ IfOk result (λ i. text_of i ≡ units) × IfOk result is_analysis × ObeysLaws source base_level
constructor-clauses source base_level text_of units is_analysis result =
    (λ all. (all.text, all.analysis, all.laws), λ all. record { text = all.0; analysis = all.1; laws = all.2 })
