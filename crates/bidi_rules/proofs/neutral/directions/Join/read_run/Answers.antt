use Rattle.bidi_base.proofs.Common.{map, sym, ◌∙◌, arith, get_or-map, length-map, bounds}
use Rattle.bidi_explicit.proofs.InRuns.{in_runs-at, run_some}
use Rattle.bidi_rules.proofs.neutral.directions.Join.read_run.Goals as goal

pub loop-at-init : goal.loop-at-init
loop-at-init c = grind (arith, get_or-map, run_some, length-map)

-- the run ended with no unit of the opposite direction
pub loop-at-preserved : goal.loop-at-preserved
loop-at-preserved c =
    let before = c.loop-at.invariant in
    let q = c.next_opposite-at.ensures in
    let runs = map bounds c.args.runs.now in
    record {
      starts = omega arith;
      ends = q.within;
      end = before.end;
      long = c.next_opposite-at.auto.classes ∙ before.long;
      first_run = q.first_run;
      opposite = q.opposite ∙ before.opposite;
      reads = λ s is same u.
          (q.reads s is (same ∙ sym before.opposite)
          (λ k from below. simp is (in_runs-at c.args.run runs k (omega (arith, length-map c.args.runs.now bounds)) (omega arith) (omega arith)))
          (before.reads s is same u)).ended c.if-at-end.false;
    }
