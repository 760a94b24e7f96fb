use Rattle.bidi_base.proofs.Common.{◌≡◌, flat_map, string_bytes}
use Rattle.bidi_vectors_examples.specs.Runs.{shown_run}
use Rattle.bidi_vectors_examples.proofs.callers.mirrored_line.Given as goal

abbrev pub invariant-loop-run : goal.invariant-loop-run
invariant-loop-run l = string_bytes l.shown ≡ flat_map (λ r. shown_run (r.0.now, r.1)) l.yielded
