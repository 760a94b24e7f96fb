-- A paragraph in which nothing opens a level: the passes over its one run.
use Rattle.bidi_base.proofs.Common.{◌≡◌, ℕ, true, List, [], ◌∷◌, length, map, Option, arith, filter, Range, All-cons, All-nil, explicit_levels, explicit_classes, is_flat, hidden, stored_classes}
use Rattle.bidi_base.proofs.Common.{direction_of, has_places, kept_indexes, sequences, IsLine, text_len, per_unit, AreLines, chars_in_runs, kept_in_runs, replicate, append-nil}
use Rattle.bidi_base.specs.declared.char_data.BidiClass.{BidiClass}
use Rattle.bidi_base.specs.declared.char_data.BidiClass.TheVariants.{L}
use Rattle.bidi_base.specs.declared.data_source.BidiMatchedOpeningBracket.{BidiMatchedOpeningBracket}
use Rattle.bidi_laws.proofs.FlatLemmas.{stored_classes-flat, explicit_levels-flat, processing_classes-flat, sequences-flat}
use Rattle.bidi_base.proofs.PerUnit.{map-per_unit, per_char-per_unit}
use Rattle.bidi_base.proofs.UnitIndexLemmas.{char_index-unit_index, is_boundary-unit_index, unit_index-zero, unit_index-end}
use Rattle.bidi_laws.proofs.StoredSteps.{length-stored_classes}
use Rattle.bidi_base.proofs.TextLemmas.{HasUnits}
use Rattle.bidi_laws.proofs.NeutralLemmas.{direction_of-l_or_r}
use Rattle.bidi_explicit.specs.Joining.{JoinedRuns, characters_of}
use Rattle.bidi_explicit.specs.RunSequence.{borrowed_runs, borrowed_sos, borrowed_eos, borrowed_joined}
use Rattle.bidi_explicit.specs.declared.prepare.borrowed.BorrowedSequence.{BorrowedSequence}
use Rattle.bidi_paragraphs.proofs.FilledUnits.{per_unit-replicate}
use Rattle.bidi_paragraphs.proofs.LevelPasses.{AreResolvedTo, AreResolvedTo-start}
use Rattle.bidi_paragraphs.proofs.SequencesInPlace.{IsNext, IsNext-at}

module _ (len_of : ℕ → ℕ) (h : HasUnits len_of) (chars : List ℕ) (source_classes : List BidiClass) (bracket_of : ℕ → Option BidiMatchedOpeningBracket) (para_level : ℕ)
    (fits : length source_classes ≡ length chars) (flat : is_flat source_classes ≡ true) where
  abbrev stored : List BidiClass
  stored = stored_classes source_classes

  -- the one run, with the direction of the paragraph at both ends
  abbrev pub whole : JoinedRuns
  whole = record { runs = (0, text_len len_of chars) ∷ []; sos = direction_of para_level; eos = direction_of para_level }

  -- a sequence of it, as code borrows it
  pub borrowed-whole : (s : BorrowedSequence) (runs : List (Range ℕ)) (end : ℕ) → borrowed_runs s ≡ runs → runs ≡ record { start = 0; end = end } ∷ [] → end ≡ text_len len_of chars
      → borrowed_sos s ≡ direction_of para_level → borrowed_eos s ≡ direction_of para_level → borrowed_joined s ≡ whole
  borrowed-whole s runs end runs_are is long sos eos = grind arith

  stored_is : stored ≡ source_classes
  stored_is = stored_classes-flat source_classes flat

  places-whole : kept_in_runs len_of chars stored whole.runs ≡ kept_indexes stored
  unfolding kept_in_runs chars_in_runs kept_indexes
  places-whole =
      grind (
        arith,
        append-nil,
        char_index-unit_index len_of chars h 0,
        unit_index-zero,
        char_index-unit_index len_of chars h (length chars),
        unit_index-end len_of chars (length chars),
        length-stored_classes,
      )

  -- it is all there is
  sequences-whole : filter has_places (characters_of len_of chars stored whole ∷ []) ≡ sequences para_level stored (explicit_levels para_level stored)
  sequences-whole = grind (arith, stored_is, sequences-flat, places-whole)

  -- a sequence in code that has this run
  module _ (j : JoinedRuns) (same : j ≡ whole) where
    pub joined-IsNext : IsNext source_classes (map bracket_of chars) stored (explicit_levels para_level stored) (explicit_classes para_level stored) [] (characters_of len_of chars stored j)
    joined-IsNext =
        rw same (IsNext-at para_level stored (characters_of len_of chars stored whole ∷ []) sequences-whole source_classes (map bracket_of chars)
        0 (characters_of len_of chars stored whole) (omega arith) (direction_of-l_or_r para_level))

    pub joined-AreLines : AreLines len_of chars j.runs
    joined-AreLines =
        rw same (All-cons (λ (r : ℕ × ℕ). IsLine len_of chars r.0 r.1) (0, text_len len_of chars) []
        (grind (arith, unit_index-zero, is_boundary-unit_index len_of chars 0, unit_index-end len_of chars (length chars), is_boundary-unit_index len_of chars (length chars))) (All-nil (λ (r : ℕ × ℕ). IsLine len_of chars r.0 r.1)))

    pub joined-sequences : filter has_places (characters_of len_of chars stored j ∷ []) ≡ sequences para_level stored (explicit_levels para_level stored)
    joined-sequences = rw same sequences-whole

  -- the levels that are filled are the explicit ones
  pub levels-whole : (old new : List ℕ) → length old ≡ text_len len_of chars → new ≡ replicate (length old) para_level → new ≡ per_unit len_of chars (explicit_levels para_level stored)
  levels-whole old new long is = grind (arith, per_unit-replicate, explicit_levels-flat, stored_is)

  -- and the passes begin with the hidden classes
  pub whole-AreResolvedTo : (original_classes classes : List BidiClass) → original_classes ≡ per_unit len_of chars stored → classes ≡ map hidden original_classes
      → AreResolvedTo len_of h chars source_classes bracket_of para_level [] classes
  whole-AreResolvedTo original_classes classes original_is is =
      AreResolvedTo-start len_of h chars source_classes bracket_of para_level original_classes classes fits original_is
      (simp (is, original_is, stored_is, map-per_unit hidden len_of chars source_classes, per_char-per_unit len_of h L chars source_classes fits, processing_classes-flat source_classes flat para_level))
