use Rattle.bidi_base.proofs.Common.{arith, get_or-map, length-map}
use Rattle.bidi_explicit.proofs.InRuns.{in_runs-drop}
use Rattle.bidi_explicit.proofs.RunOf.{in_runs-upto}
use Rattle.bidi_rules.proofs.neutral.nearest.run_near.Goals as goal

pub returns-then-unit-runs : goal.returns-then-unit-runs
returns-then-unit-runs c = record {
  later = grind (arith, in_runs-drop, get_or-map, length-map);
  upto = grind (arith, in_runs-upto, get_or-map, length-map);
  within = grind (arith, length-map);
}
