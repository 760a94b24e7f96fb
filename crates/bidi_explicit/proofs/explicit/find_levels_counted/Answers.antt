-- One stretch or control after another.
use Rattle.bidi_base.proofs.Common.{map, arith, rules, map-append, bounds}
use Rattle.bidi_explicit.proofs.CharEnds.{index-zero}
use Rattle.bidi_explicit.proofs.CountLemmas.{count-one, count-zero, least-one, least-zero}
use Rattle.bidi_explicit.proofs.ExplicitStretches.{read-start, read-levels, read-classes, read-runs, read-no_runs, read-all, read-begins, read-count, read-units}
use Rattle.bidi_explicit.proofs.explicit.find_levels_counted.Goals as goal
use Rattle.bidi_explicit.proofs.explicit.find_levels_counted.Goals.{then-is_control, else-is_control}

pub loop-at-init : goal.loop-at-init
loop-at-init g c = grind (arith, read-start, index-zero, count-zero, least-zero)

pub read_control-progress-requires-clause-read : goal.read_control-progress-requires-clause-read
read_control-progress-requires-clause-read g c = (map bounds c.loop-at.runs.items, c.loop-at.run, c.loop-at.invariant.0)

pub read_stretch-stretch-requires-clause-begins : goal.read_stretch-stretch-requires-clause-begins
read_stretch-stretch-requires-clause-begins g c = search (rules, read-begins)

pub loop-at-preserved : goal.loop-at-preserved
loop-at-preserved g c = elim c.if-is_control.branch [
  | then-is_control w ↦ (
    simp (w.levels-is, w.classes-is, w.stack-is, w.progress-is, c.in_ok-extend.ensures.runs, c.in_ok-extend.ensures.run) (w.read_control-progress.ensures.read _ _ c.loop-at.invariant.0),
    grind (arith, least-one),
    grind (arith, count-one),
  )
  | else-is_control w ↦ (
    simp (w.levels-is, w.classes-is, w.stack-is, w.progress-is, c.in_ok-extend.ensures.runs, c.in_ok-extend.ensures.run) (w.read_stretch-stretch.ensures.read _ _ _ w.top.ensures w.write_level.ensures _ _ c.loop-at.invariant.0),
    grind arith,
    grind arith,
  )
]

pub returns-in_ok-push : goal.returns-in_ok-push
returns-in_ok-push g c =
    let i = c.loop-at.invariant.0 in
    grind (
      arith,
      map-append,
      read-levels _ _ _ _ _ _ _ i,
      read-classes _ _ _ _ _ _ _ i,
      read-runs _ _ _ _ _ _ _ i,
      read-all _ _ _ _ _ _ _ i,
      read-count _ _ _ _ _ _ _ i,
      read-units _ _ _ _ _ _ _ i,
    )

pub returns-else-units-gt0 : goal.returns-else-units-gt0
returns-else-units-gt0 g c =
    let i = c.loop-at.invariant.0 in
    grind (
      arith,
      read-levels _ _ _ _ _ _ _ i,
      read-classes _ _ _ _ _ _ _ i,
      read-no_runs _ _ _ _ _ _ _ i,
      read-all _ _ _ _ _ _ _ i,
      read-count _ _ _ _ _ _ _ i,
      read-units _ _ _ _ _ _ _ i,
    )
