use Rattle.bidi_base.proofs.Common.{◌≡◌, take, range_with_len}
use Rattle.bidi_lines.proofs.visual_order.write_indexes.Given as goal

-- the indexes so far
abbrev pub invariant-loop-k : goal.invariant-loop-k
invariant-loop-k l = take l.k l.order ≡ range_with_len 0 l.k
