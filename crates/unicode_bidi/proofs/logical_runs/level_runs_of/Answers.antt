use Rattle.bidi_base.proofs.Common.{◌<◌, ◌≡◌, arith, nat_tests, ap, ◌∙◌, map, map_push, length, run_of}
use Rattle.unicode_bidi.proofs.LogicalRuns.{found-at_first, found-if_same, found-if_other, found-all, found-none}
use Rattle.unicode_bidi.proofs.logical_runs.level_runs_of.Goals.{then-ne+in_ok-push, else-ne, then-not-is_empty+in_ok-push-2, else-not-is_empty}
use Rattle.unicode_bidi.proofs.logical_runs.level_runs_of.Goals as goal

pub loop-at-init : goal.loop-at-init
loop-at-init c = rw c.new-runs.ensures.items (found-at_first c.args.start c.args.levels.now)

pub loop-at-preserved : goal.loop-at-preserved
loop-at-preserved c = elim c.if-ne.branch [
  | then-ne+in_ok-push w ↦
      found-if_other c.args.start c.args.levels.now c.loop-at.begun c.loop-at.at (map run_of c.loop-at.runs.items) c.loop-at.invariant c.loop-at-test.true
      c.index-levels-at.result c.index-levels-at-in-loop-at.result c.index-levels-at.is c.index-levels-at-in-loop-at.is c.ne.result c.ne.ensures _ _ w.if-ne.true w.begun-is
      (ap (λ v. map run_of v.items) w.runs-is ∙ ap (map run_of) w.in_ok-push.ensures.items ∙ map_push run_of c.loop-at.runs.items _)
  | else-ne w ↦
      found-if_same c.args.start c.args.levels.now c.loop-at.begun c.loop-at.at (map run_of c.loop-at.runs.items) c.loop-at.invariant c.loop-at-test.true
      c.index-levels-at.result c.index-levels-at-in-loop-at.result c.index-levels-at.is c.index-levels-at-in-loop-at.is c.ne.result c.ne.ensures _ _ w.if-ne.false w.begun-is
      (ap (λ v. map run_of v.items) w.runs-is)
]

pub returns : goal.returns
returns c = elim c.if-not-is_empty.branch [
  | then-not-is_empty+in_ok-push-2 w ↦
      let some : 0 < length c.args.levels.now = grind (arith, nat_tests, c.is_empty.ensures, w.if-not-is_empty.true) in
      ap (λ v. map run_of v.items) w.runs-is ∙ ap (map run_of) w.in_ok-push-2.ensures.items ∙ map_push run_of c.loop-at.runs.items _
      ∙ found-all c.args.start c.args.levels.now c.loop-at.begun c.loop-at.at (map run_of c.loop-at.runs.items) c.loop-at.invariant some c.loop-at-test.false
      (c.loop-at.auto.at-end (omega arith))
  | else-not-is_empty w ↦
      let none : length c.args.levels.now ≡ 0 = grind (arith, nat_tests, c.is_empty.ensures, w.if-not-is_empty.false) in
      ap (λ v. map run_of v.items) w.runs-is
      ∙ found-none c.args.start c.args.levels.now c.loop-at.begun c.loop-at.at (map run_of c.loop-at.runs.items) c.loop-at.invariant none
]
