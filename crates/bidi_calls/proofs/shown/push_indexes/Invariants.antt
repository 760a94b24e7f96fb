use Rattle.bidi_base.proofs.Common.{◌≡◌, ◌++◌, take}
use Rattle.bidi_calls.specs.ShownOrder.{shown_from}
use Rattle.bidi_calls.proofs.shown.push_indexes.Given as goal

abbrev pub invariant-loop-k : goal.invariant-loop-k
invariant-loop-k l = l.out.items ≡ l.fn.out.items ++ shown_from l.options l.first (take l.k l.chars)
