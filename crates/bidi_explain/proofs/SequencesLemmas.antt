-- The isolating run sequences of a paragraph can be resolved.
use Rattle.bidi_base.proofs.Common.{◌≡◌, ℕ, ◌<◌, ◌≤◌, List, length, get_or, Option, sym, ◌∙◌, arith, is_kept, explicit_levels}
use Rattle.bidi_base.proofs.Common.{explicit_classes, stored_classes, RunSequence, sequences, sequence_from, start_class, end_class}
use Rattle.bidi_base.specs.declared.char_data.BidiClass.{BidiClass}
use Rattle.bidi_base.specs.declared.char_data.BidiClass.TheVariants.{L}
use Rattle.bidi_base.specs.declared.data_source.BidiMatchedOpeningBracket.{BidiMatchedOpeningBracket}
use Rattle.bidi_laws.proofs.ExplicitLemmas.{length-explicit_levels, length-explicit_classes}
use Rattle.bidi_laws.proofs.NeutralLemmas.{direction_of-l_or_r}
use Rattle.bidi_laws.proofs.StoredSteps.{length-stored_classes}
use Rattle.bidi_laws.proofs.ResolvedLemmas.{sequence-level}
use Rattle.bidi_laws.proofs.SequencePlaces.{sequence-kept, sequence-begun, sequence-not_empty}
use Rattle.bidi_laws.proofs.StoredLemmas.{is_kept_at-stored_classes, times_in-at, explicit_classes-kept, list_all-at_indexes}
use Rattle.bidi_explain.specs.Stages.{CanResolve}

pub can_resolve : (para_level : ℕ) (source_classes : List BidiClass) (brackets : List (Option BidiMatchedOpeningBracket)) (k : ℕ) (d : RunSequence) → para_level ≤ 125 → length brackets ≡ length source_classes
    → k < length (sequences para_level (stored_classes source_classes) (explicit_levels para_level (stored_classes source_classes)))
    → CanResolve source_classes brackets (explicit_classes para_level (stored_classes source_classes)) (explicit_levels para_level (stored_classes source_classes)) (get_or (sequences para_level (stored_classes source_classes) (explicit_levels para_level (stored_classes source_classes))) k d)
unfolding sequence_from start_class end_class
can_resolve para_level source_classes brackets k d fits bracketed within =
    let stored : List BidiClass = stored_classes source_classes in
    let levels : List ℕ = explicit_levels para_level stored in
    let classes : List BidiClass = explicit_classes para_level stored in
    let s : RunSequence = get_or (sequences para_level stored levels) k d in
    let begun = sequence-begun para_level stored levels k d within in
    let own = sequence-kept para_level stored levels k d within in
    record {
      sources = grind (arith, length-explicit_classes, length-stored_classes);
      bracketed = grind (arith, length-explicit_classes, length-stored_classes);
      leveled = grind (arith, length-explicit_levels, length-explicit_classes);
      some = sequence-not_empty para_level stored levels k d within;
      within = λ i e inside. omega (arith, (own (get_or s.places i e) (times_in-at s.places i e inside)).1, length-explicit_classes para_level stored);
      sos = rw begun.1 (direction_of-l_or_r _);
      eos = rw begun.1 (direction_of-l_or_r _);
      kept = list_all-at_indexes is_kept L classes s.places (λ p there. explicit_classes-kept para_level stored p (own p there).1 (own p there).0);
      source_kept = list_all-at_indexes is_kept L source_classes s.places
          (λ p there. sym (is_kept_at-stored_classes source_classes p (omega (arith, (own p there).1, length-stored_classes source_classes))) ∙ (own p there).0);
      level = (sequence-level para_level stored k d fits within).below;
    }
