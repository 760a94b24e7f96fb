use Rattle.bidi_base.proofs.Common.{◌≡◌, ℕ, List, map, take, run_of}
use Rattle.bidi_vectors_examples.specs.Runs.{text_and_level}
use Rattle.bidi_vectors_examples.proofs.callers.visual_runs.Given as goal

abbrev pub invariant-loop-run : goal.invariant-loop-run
invariant-loop-run l = map {B = List ℕ × ℕ} (λ r. (r.0.now, r.1)) l.runs.items
    ≡ map (λ r. text_and_level l.text l.line.start l.levels.items (run_of r)) (take l.run-index l.run-items)
