-- The test of what is left answers for the whole.
use Rattle.bidi_base.proofs.Common.{◌≡◌, map, drop, bounds, are_ordered_from, are_ordered}
use Rattle.bidi_explicit.proofs.prepare.sequence.are_in_order.Given as goal

abbrev pub invariant-loop-run : goal.invariant-loop-run
invariant-loop-run l = are_ordered_from l.last (map bounds (drop l.run-index l.runs)) ≡ are_ordered (map bounds l.runs)
