use Rattle.bidi_base.proofs.Common.{◌≡◌, ◌<◌, ◌≤◌, ◌∙◌, sym, ℕ, List, length, true, arith, is_per_char, text_len, IsLine}
use Rattle.bidi_base.specs.contracts.char_data.BidiClassPartialEq.TheImpl.{ghosts}
use Rattle.bidi_base.specs.declared.char_data.BidiClass.{BidiClass}
use Rattle.bidi_base.proofs.TextLemmas.{HasUnits, is_boundary-le}
use Rattle.bidi_text.proofs.PerCharTests.{class_test}
use Rattle.bidi_base.proofs.UnitsLemmas.{length-from_is_per_char}
use Rattle.bidi_explicit.proofs.RunReading.{IsReadTo-jump, IsReadTo-tested, IsCountedTo-start, counted-all, counted-closed}
use Rattle.bidi_explicit.proofs.RunReading.{counted-closed_before, counted-end, counted-opened, counted-smaller, counted-waits}
use Rattle.bidi_explicit.proofs.prepare.joining.read_run.Goals as goal
use Rattle.bidi_explicit.proofs.prepare.joining.read_run.Goals.{else-loop-at-test, then-loop-at-test+then-control-end}

-- the run lies within
within : (len_of : ℕ → ℕ) → HasUnits len_of → (chars : List ℕ) (classes : List BidiClass) (start end : ℕ)
    → is_per_char ghosts.eq len_of chars classes ≡ true → IsLine len_of chars start end → end ≤ length classes
within len_of h chars classes start end whole line = grind (arith, length-from_is_per_char, class_test, is_boundary-le) steps 400000

-- a unit has a class
long : (len_of : ℕ → ℕ) → HasUnits len_of → (chars : List ℕ) (classes : List BidiClass) → is_per_char ghosts.eq len_of chars classes ≡ true → length classes ≡ text_len len_of chars
long len_of h chars classes whole = length-from_is_per_char ghosts.eq class_test len_of h chars classes whole

pub next_control-control-requires-clause-within : goal.next_control-control-requires-clause-within
next_control-control-requires-clause-within g c = search (arith, within)

pub bounds-classes-control : goal.bounds-classes-control
bounds-classes-control g c = search (arith, within)

pub loop-at-init : goal.loop-at-init
loop-at-init g c =
    IsCountedTo-start _ _ c.requires.per_char _ _ _ _ c.requires.is_line c.requires.kept_end c.args.waiting.now

pub end_within-at-requires-clause-begins : goal.end_within-at-requires-clause-begins
end_within-at-requires-clause-begins g c =
    let below : c.next_control-control.result < c.args.run.now.end = omega (arith, c.next_control-control.ensures.ends, c.if-control-end.false) in
    let jumped = IsReadTo-jump _ _ c.requires.per_char _ _ _ _ c.requires.is_line c.requires.kept_end _ _ _ _ c.loop-at.invariant.read c.next_control-control.ensures in
    (IsReadTo-tested _ _ c.requires.per_char _ _ _ _ c.requires.is_line c.requires.kept_end _ _ _ below jumped).begins

pub end_within-at-requires-clause-same_len : goal.end_within-at-requires-clause-same_len
end_within-at-requires-clause-same_len g c = long _ g.T.TextSource.encoding.positive _ _ c.requires.per_char

pub loop-at-smaller-then-unwaited-gt0 : goal.loop-at-smaller-then-unwaited-gt0
loop-at-smaller-then-unwaited-gt0 g c =
    counted-smaller _ _ c.requires.per_char _ _ _ _ c.requires.is_line c.requires.kept_end
    _ _ _ _ _ _ c.next_control-control.ensures c.if-control-end.false c.end_within-at.ensures c.loop-at.invariant

pub loop-at-smaller-else-unwaited-gt0 : goal.loop-at-smaller-else-unwaited-gt0
loop-at-smaller-else-unwaited-gt0 g c =
    counted-smaller _ _ c.requires.per_char _ _ _ _ c.requires.is_line c.requires.kept_end
    _ _ _ _ _ _ c.next_control-control.ensures c.if-control-end.false c.end_within-at.ensures c.loop-at.invariant

pub loop-at-smaller-then-at-kept_end : goal.loop-at-smaller-then-at-kept_end
loop-at-smaller-then-at-kept_end g c =
    counted-smaller _ _ c.requires.per_char _ _ _ _ c.requires.is_line c.requires.kept_end
    _ _ _ _ _ _ c.next_control-control.ensures c.if-control-end.false c.end_within-at.ensures c.loop-at.invariant

pub loop-at-smaller : goal.loop-at-smaller
loop-at-smaller g c =
    counted-smaller _ _ c.requires.per_char _ _ _ _ c.requires.is_line c.requires.kept_end
    _ _ _ _ _ _ c.next_control-control.ensures c.if-control-end.false c.end_within-at.ensures c.loop-at.invariant

pub loop-at-preserved-then-unwaited-gt0 : goal.loop-at-preserved-then-unwaited-gt0
loop-at-preserved-then-unwaited-gt0 g c =
    counted-closed _ _ c.requires.per_char _ _ _ _ c.requires.is_line c.requires.kept_end
    _ _ _ _ _ _ c.next_control-control.ensures c.if-control-end.false c.end_within-at.ensures c.loop-at.invariant
    (sym c.is_pdi.ensures ∙ c.if-is_pdi.true) c.if-unwaited-gt0.true

pub loop-at-preserved-else-unwaited-gt0 : goal.loop-at-preserved-else-unwaited-gt0
loop-at-preserved-else-unwaited-gt0 g c =
    counted-closed_before _ _ c.requires.per_char _ _ _ _ c.requires.is_line c.requires.kept_end
    _ _ _ _ _ _ c.next_control-control.ensures c.if-control-end.false c.end_within-at.ensures c.loop-at.invariant
    _ (sym c.is_pdi.ensures ∙ c.if-is_pdi.true) (omega arith) c.pop.ensures

pub loop-at-preserved-then-at-kept_end : goal.loop-at-preserved-then-at-kept_end
loop-at-preserved-then-at-kept_end g c =
    counted-waits _ _ c.requires.per_char _ _ _ _ c.requires.is_line c.requires.kept_end
    _ _ _ _ _ _ c.next_control-control.ensures c.if-control-end.false c.end_within-at.ensures c.loop-at.invariant
    _ _ (sym c.is_pdi.ensures ∙ c.if-is_pdi.false) c.if-at-kept_end.true c.in_ok-push_unwaited.ensures c.in_ok-push.ensures

pub loop-at-preserved : goal.loop-at-preserved
loop-at-preserved g c =
    counted-opened _ _ c.requires.per_char _ _ _ _ c.requires.is_line c.requires.kept_end
    _ _ _ _ _ _ c.next_control-control.ensures c.if-control-end.false c.end_within-at.ensures c.loop-at.invariant
    (sym c.is_pdi.ensures ∙ c.if-is_pdi.false) c.if-at-kept_end.false

pub returns : goal.returns
returns g c =
    elim c.loop-at-test.branch [
      | else-loop-at-test w ↦
          rw (counted-all _ _ c.requires.per_char _ _ _ _ c.requires.is_line c.requires.kept_end
          _ _ _ _ w.loop-at-test.false c.loop-at.invariant) at c.push_unwaited-2.ensures
      | then-loop-at-test+then-control-end w ↦
          rw (counted-end _ _ c.requires.per_char _ _ _ _ c.requires.is_line c.requires.kept_end
          _ _ _ _ _ w.next_control-control.ensures w.if-control-end.true c.loop-at.invariant) at c.push_unwaited-2.ensures
    ]
