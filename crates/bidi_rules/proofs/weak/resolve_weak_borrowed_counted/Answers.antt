-- The three steps, one after another.
use Rattle.bidi_base.proofs.Common.{◌≡◌, ℕ, true, List, length, map, refl, arith, Range, is_per_char, IsPerChar, bounds, are_ordered, in_runs, AreLines, carried, AreWeakTypesResolved}
use Rattle.bidi_base.specs.declared.char_data.BidiClass.{BidiClass}
use Rattle.bidi_base.specs.declared.char_data.BidiClass.TheVariants.{L}
use Rattle.bidi_base.specs.Updated.{IsUpdated}
use Rattle.bidi_base.proofs.UpdatedLemmas.{IsUpdated-passing}
use Rattle.bidi_text.proofs.PerCharTests.{class_eq, class_test}
use Rattle.bidi_base.proofs.TextLemmas.{HasUnits}
use Rattle.bidi_base.proofs.UnitsLemmas.{IsPerChar-from_is_per_char}
use Rattle.bidi_explicit.specs.declared.prepare.borrowed.BorrowedSequence.{BorrowedSequence}
use Rattle.bidi_explicit.specs.RunSequence.{borrowed_runs, borrowed_sos}
use Rattle.bidi_rules.specs.WeakPass.{left_over}
use Rattle.bidi_rules.specs.WeakWalk.{len_at, IsMarked, IsWalked}
use Rattle.bidi_rules.proofs.CountedUnits.{characters-at_most}
use Rattle.bidi_rules.proofs.WeakText.{AreWeakTypesResolved-passes, lines-within}
use Rattle.bidi_rules.proofs.weak.resolve_weak_borrowed_counted.Goals as goal

-- what the steps over the runs `read` of a sequence stand on
record IsReady (len_of : ℕ → ℕ) (chars : List ℕ) (read : List (Range ℕ)) (old : List BidiClass) : Type 0 where
  ordered : are_ordered (map bounds read) ≡ true
  lines : AreLines len_of chars (map bounds read)
  per : IsPerChar len_of chars old

ready : (len_of : ℕ → ℕ) → HasUnits len_of → (chars : List ℕ) (sequence : BorrowedSequence) (read : List (Range ℕ)) (old : List BidiClass)
    → read ≡ borrowed_runs sequence → AreLines len_of chars (map bounds (borrowed_runs sequence))
    → is_per_char class_eq len_of chars old ≡ true → IsReady len_of chars read old
ready len_of h chars sequence read old is lines per =
    rw is (record { ordered = grind arith; lines = lines; per = IsPerChar-from_is_per_char class_eq class_test len_of h chars old per })

resolved : (len_of : ℕ → ℕ) → HasUnits len_of → (chars : List ℕ) (sequence : BorrowedSequence) (read : List (Range ℕ)) (sos : BidiClass)
    → read ≡ borrowed_runs sequence → sos ≡ borrowed_sos sequence → (old c1 c2 c3 : List BidiClass) → IsReady len_of chars read old
    → IsMarked (map bounds read) (carried sos) old c1 → IsWalked (len_at len_of chars) (map bounds read) sos c1 c2
    → IsUpdated L (in_runs (map bounds read)) left_over 0 (length c2) c2 c3
    → AreWeakTypesResolved len_of chars (map bounds (borrowed_runs sequence)) (borrowed_sos sequence) old c3
resolved len_of h chars sequence read sos runs_are sos_is old c1 c2 c3 w marks numbers u =
    rw (runs_are, sos_is) at (AreWeakTypesResolved-passes len_of h chars (map bounds read) w.lines w.ordered sos old w.per c1 marks c2 c3 numbers (IsUpdated-passing L (in_runs (map bounds read)) left_over c2 c3 refl u) u.failing u.same_len)

pub resolve_marks_and_numbers-requires-clause-are_lines : goal.resolve_marks_and_numbers-requires-clause-are_lines
resolve_marks_and_numbers-requires-clause-are_lines g c = grind arith

pub resolve_marks_and_numbers-requires-clause-per_char : goal.resolve_marks_and_numbers-requires-clause-per_char
resolve_marks_and_numbers-requires-clause-per_char g c =
    (ready g.T.TextSource.encoding.len_of g.T.TextSource.encoding.positive (g.T.TextSource.text c.args.text).chars c.args.sequence c.runs-runs.result.now c.args.processing_classes.now c.runs-runs.ensures c.requires.are_lines c.requires.per_char).per

pub resolve_w3_w6-requires-clause-within : goal.resolve_w3_w6-requires-clause-within
resolve_w3_w6-requires-clause-within g c =
    grind (
      arith,
      ready g.T.TextSource.encoding.len_of g.T.TextSource.encoding.positive (g.T.TextSource.text c.args.text).chars c.args.sequence c.runs-runs.result.now c.args.processing_classes.now c.runs-runs.ensures c.requires.are_lines c.requires.per_char,
      lines-within g.T.TextSource.encoding.len_of g.T.TextSource.encoding.positive (g.T.TextSource.text c.args.text).chars (map bounds c.runs-runs.result.now),
    )

pub returns : goal.returns
returns g c =
    grind (
      arith,
      ready g.T.TextSource.encoding.len_of g.T.TextSource.encoding.positive (g.T.TextSource.text c.args.text).chars c.args.sequence c.runs-runs.result.now c.args.processing_classes.now c.runs-runs.ensures c.requires.are_lines c.requires.per_char,
      resolved g.T.TextSource.encoding.len_of g.T.TextSource.encoding.positive (g.T.TextSource.text c.args.text).chars c.args.sequence c.runs-runs.result.now c.sos-sos.result c.runs-runs.ensures c.sos-sos.ensures c.args.processing_classes.now c.resolve_marks_and_numbers.ensures.walked.0 c.resolve_marks_and_numbers.new.classes c.resolve_w3_w6.new.classes,
      characters-at_most g.T.TextSource.encoding.len_of g.T.TextSource.encoding.positive (g.T.TextSource.text c.args.text).chars (map bounds c.runs-runs.result.now),
    )
