use Rattle.bidi_base.proofs.Common.{◌+◌, ◌-◌, ◌/◌, map, arith, get_or-map, length-map, bounds}
use Rattle.bidi_explicit.proofs.WalkLemmas.{no_range}
use Rattle.bidi_explicit.proofs.RunOf.{ends-rise, in_runs-later, in_runs-upto}
use Rattle.bidi_rules.proofs.neutral.nearest.run_of.Goals as goal

pub loop-low-preserved-then-runs-middle : goal.loop-low-preserved-then-runs-middle
loop-low-preserved-then-runs-middle c =
    grind (
      arith,
      get_or-map bounds c.args.runs.now (c.loop-low.low + (c.loop-low.high - c.loop-low.low) / 2) no_range (0, 0),
      ends-rise 0 (map bounds c.args.runs.now),
      length-map c.args.runs.now bounds,
    )

pub loop-low-preserved : goal.loop-low-preserved
loop-low-preserved c =
    grind (
      arith,
      get_or-map bounds c.args.runs.now (c.loop-low.low + (c.loop-low.high - c.loop-low.low) / 2) no_range (0, 0),
      ends-rise 0 (map bounds c.args.runs.now) (c.loop-low.low + (c.loop-low.high - c.loop-low.low) / 2),
      length-map c.args.runs.now bounds,
    )

pub returns : goal.returns
returns c = record {
  later = grind (arith, in_runs-later) steps 400000;
  upto = grind (arith, length-map, in_runs-upto);
  within = grind (arith, length-map);
}
