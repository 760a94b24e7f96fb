-- The sequences that begin before the run are copied, and the linked runs stay.
use Rattle.bidi_base.proofs.Common.{◌≡◌, map, bounds}
use Rattle.bidi_explicit.specs.Links.{linked_runs, sequences_before}
use Rattle.bidi_explicit.specs.RunSequence.{joined}
use Rattle.bidi_explicit.proofs.prepare.joining.isolating_run_sequences.Given as goal

abbrev pub invariant-loop-first : goal.invariant-loop-first
invariant-loop-first g l = record {
  kept : linked_runs l.links l.runs.items ≡ map bounds l.fn.runs.items;
  copied : map joined l.out.items ≡ sequences_before l.links (map bounds l.fn.runs.items) l.first;
}
