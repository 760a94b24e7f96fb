-- The runs that were linked stay, and those of the sequence up to the last one stand after them.
use Rattle.bidi_base.proofs.Common.{◌≡◌, ◌-◌, ◌≤◌, length, take, drop}
use Rattle.bidi_explicit.specs.Links.{linked_runs}
use Rattle.bidi_explicit.proofs.RunGather.{IsGathered}
use Rattle.bidi_explicit.proofs.prepare.links.RunLinks.copy_chain.Given as goal

abbrev pub invariant-loop-next : goal.invariant-loop-next
invariant-loop-next l = record {
  room : length l.self.next.items ≤ length l.runs.items;
  kept : take (length l.self.next.items) l.runs.items ≡ take (length l.self.next.items) l.fn.runs.items;
  came : IsGathered l.self (linked_runs l.self l.fn.runs.items) l.first l.last (drop (length l.self.next.items) l.runs.items);
}

abbrev pub decreases-loop-next : goal.decreases-loop-next
decreases-loop-next l = length l.self.next.items - l.last
