-- What is left has the same entries below its innermost isolate.
use Rattle.bidi_base.proofs.Common.{◌≡◌, ◌+◌, ◌≤◌, length, map, reverse, drop_isolate}
use Rattle.bidi_explicit.specs.Status.{seen}
use Rattle.bidi_explicit.proofs.explicit.status.pop_isolate.Given as goal

abbrev pub invariant-loop-entry : goal.invariant-loop-entry
invariant-loop-entry g l = record {
  stack : drop_isolate (map seen (reverse l.entries.items)) ≡ drop_isolate (map seen (reverse l.fn.entries.items));
  steps_at_least : l.fn.steps ≤ l.steps;
  popped : l.steps + length l.entries.items ≡ l.fn.steps + length l.fn.entries.items;
}

abbrev pub decreases-loop-entry : goal.decreases-loop-entry
decreases-loop-entry g l = length l.entries.items
