use Rattle.bidi_base.proofs.Common.{◌≡◌, ◌-◌, ◌++◌, length, take, map, run_of, at_indexes}
use Rattle.smallvec.specs.SmallVec.{HasRoomFor}
use Rattle.bidi_lines.proofs.visual_runs.copy_in_order.Given as goal

abbrev pub invariant-loop-k : goal.invariant-loop-k
invariant-loop-k l = record {
  room : HasRoomFor l.ordered (length l.order - l.k-index);
  runs : map run_of l.ordered.items ≡ map run_of l.fn.ordered.items ++ at_indexes (0, 0) (map run_of l.runs) (take l.k-index l.order);
}
