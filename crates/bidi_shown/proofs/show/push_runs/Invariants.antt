use Rattle.bidi_base.proofs.Common.{◌≡◌, ◌++◌, take, flat_map, string_bytes, run_of}
use Rattle.bidi_shown.specs.Plain.{run_at}
use Rattle.bidi_shown.proofs.show.push_runs.Given as goal

abbrev pub invariant-loop-run : goal.invariant-loop-run
invariant-loop-run l = string_bytes l.out
    ≡ string_bytes l.fn.out ++ flat_map (λ r. run_at l.chars l.levels (run_of r)) (take l.run-index l.runs)
