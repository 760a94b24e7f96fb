use Rattle.bidi_base.proofs.Common.{◌≡◌, map, take, run_of, run_level}
use Rattle.bidi_lines.proofs.visual_runs.write_numbers.Given as goal

-- the numbers so far
abbrev pub invariant-loop-k : goal.invariant-loop-k
invariant-loop-k l = take l.k l.numbers ≡ map (run_level l.start l.levels) (map run_of (take l.k l.runs))
