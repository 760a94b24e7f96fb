use Rattle.bidi_base.proofs.Common.{arith, get_or-map, length-map, take_all}
use Rattle.bidi_explicit.proofs.InRuns.{in_runs-more}
use Rattle.bidi_explicit.proofs.RunOf.{run_end}
use Rattle.bidi_explicit.proofs.run_search.none_passes.Goals as goal

pub one_passes-requires : goal.one_passes-requires
one_passes-requires g c = omega (arith, run_end _ c.args.runs.now c.loop-run.run-index c.requires c.loop-run-test.true)

pub loop-run-preserved : goal.loop-run-preserved
loop-run-preserved g c = grind (arith, length-map, get_or-map, in_runs-more)

pub returns : goal.returns
returns g c = grind (arith, length-map, take_all)
