use Rattle.bidi_base.proofs.Common.{◌≡◌, true, length, map, arith, common_steps, get_or-map, length-map, take_all, is_kept_in_place, is_l_or_r, bounds, carried}
use Rattle.bidi_base.specs.declared.char_data.BidiClass.{BidiClass}
use Rattle.bidi_rules.proofs.CountedUnits.{length-units_in_runs-more}
use Rattle.bidi_explicit.proofs.InRuns.{in_runs-at, run_some, start_or-at, start_or-past}
use Rattle.bidi_explicit.proofs.WalkLemmas.{no_range}
use Rattle.bidi_explicit.proofs.RunOf.{run_end}
use Rattle.bidi_rules.proofs.WeakMarks.{AreMarked-first_run, AreMarked-next_run}
use Rattle.bidi_rules.proofs.weak.w1.resolve_marks.Goals as goal

side_kept : (c : BidiClass) → is_l_or_r c ≡ true → is_kept_in_place (carried c) ≡ true
side_kept c h = grind arith

pub loop-run-init : goal.loop-run-init
loop-run-init g c =
    grind (
      arith,
      AreMarked-first_run (map bounds c.args.runs.now) (carried c.args.sos) c.args.classes.now c.requires.ordered c.requires.within (side_kept c.args.sos c.requires.sos),
      side_kept c.args.sos c.requires.sos,
    )

pub resolve_marks_in-last-requires-clause-ordered : goal.resolve_marks_in-last-requires-clause-ordered
resolve_marks_in-last-requires-clause-ordered g c =
    grind (
      arith,
      get_or-map bounds c.args.runs.now c.loop-run.run-index no_range (0, 0) c.loop-run-test.true,
      run_some 0 c.loop-run.run-index (map bounds c.args.runs.now) c.requires.ordered,
      length-map c.args.runs.now bounds,
    )

pub resolve_marks_in-last-requires-clause-within : goal.resolve_marks_in-last-requires-clause-within
resolve_marks_in-last-requires-clause-within g c = omega (arith, run_end _ c.args.runs.now c.loop-run.run-index c.requires.within c.loop-run-test.true, c.loop-run.auto.classes)

pub loop-run-preserved : goal.loop-run-preserved
loop-run-preserved g c =
    grind (
      arith,
      get_or-map bounds c.args.runs.now c.loop-run.run-index no_range (0, 0) c.loop-run-test.true,
      length-map c.args.runs.now bounds,
      start_or-at (map bounds c.args.runs.now) c.loop-run.run-index (length c.args.classes.now),
      in_runs-at c.loop-run.run-index (map bounds c.args.runs.now),
      run_some 0 c.loop-run.run-index (map bounds c.args.runs.now) c.requires.ordered,
      AreMarked-next_run (map bounds c.args.runs.now) (carried c.args.sos) c.args.classes.now c.requires.ordered c.requires.within c.resolve_marks_in-last.new.classes (carried c.resolve_marks_in-last.result) c.loop-run.run-index,
      length-units_in_runs-more c.loop-run.run-index (map bounds c.args.runs.now),
    )

pub returns-clause-marked : goal.returns-clause-marked
returns-clause-marked g c = grind (arith, common_steps, start_or-past)

pub returns-clause-steps_at_most : goal.returns-clause-steps_at_most
returns-clause-steps_at_most g c = grind (arith, length-map, take_all)
