use Rattle.bidi_base.proofs.Common.{◌≡◌, take, map, run_of, run_level}
use Rattle.unicode_bidi.specs.VisualRun.{range_of, level_of}
use Rattle.unicode_bidi.proofs.visual_run.with_levels.Given as goal

-- the runs so far
abbrev pub invariant-loop-run : goal.invariant-loop-run
invariant-loop-run l = record {
  ranges : map range_of l.found.items ≡ take l.run-index l.runs;
  levels : map level_of l.found.items ≡ map (λ r. run_level l.start l.levels (run_of r)) (take l.run-index l.runs);
}
