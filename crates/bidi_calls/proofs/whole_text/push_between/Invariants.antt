use Rattle.bidi_base.proofs.Common.{◌≡◌, ◌++◌, ◌≤◌, between}
use Rattle.bidi_calls.proofs.whole_text.push_between.Given as goal

abbrev pub invariant-loop-index : goal.invariant-loop-index
invariant-loop-index l = record {
  from : l.first ≤ l.index;
  to : l.index ≤ l.end;
  items : l.out.items ≡ l.fn.out.items ++ between l.first l.index;
}
