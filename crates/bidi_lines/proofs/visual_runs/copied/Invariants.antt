use Rattle.bidi_base.proofs.Common.{◌≡◌, take, map, run_of}
use Rattle.bidi_lines.proofs.visual_runs.copied.Given as goal

abbrev pub invariant-loop-run : goal.invariant-loop-run
invariant-loop-run l = map run_of l.list.items ≡ map run_of (take l.run-index l.runs)
