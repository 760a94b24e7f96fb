-- The units of the run that came are marked.
use Rattle.bidi_base.proofs.Common.{◌≡◌, ◌+◌, ◌-◌, ◌*◌, ◌≤◌, length}
use Rattle.bidi_rules.specs.WeakWalk.{Marks}
use Rattle.bidi_rules.proofs.weak.w1.resolve_marks_in.Given as goal

abbrev pub invariant-loop-at : goal.invariant-loop-at
invariant-loop-at g l = record {
  starts : l.run.start ≤ l.at;
  ends : l.at ≤ l.end;
  end : l.end ≡ l.run.end;
  long : length l.classes ≡ length l.fn.classes;
  marked : Marks l.run.start l.at l.fn.before l.last l.fn.classes l.classes;
  steps_at_least : l.fn.steps ≤ l.steps;
  steps_at_most : 16 * l.steps ≤ 16 * l.fn.steps + 17 * (l.at - l.run.start);
}

abbrev pub decreases-loop-at : goal.decreases-loop-at
decreases-loop-at g l = l.end - l.at
