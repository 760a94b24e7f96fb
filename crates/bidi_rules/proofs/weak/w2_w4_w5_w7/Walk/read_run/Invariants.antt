-- The units of the run that came are read. Each stretch takes no more iterations than two for each of its units, and
-- one less at the run's end.
use Rattle.bidi_base.proofs.Common.{◌≡◌, ℕ, ◌+◌, ◌-◌, ◌*◌, ◌≤◌, length, map, get_or, class_at, bounds}
use Rattle.bidi_rules.specs.WeakWalk.{len_at, resolved_to, ReadsTo, WaitsBelow}
use Rattle.bidi_explicit.specs.SequenceUnits.{count_below}
use Rattle.bidi_rules.proofs.weak.w2_w4_w5_w7.Walk.read_run.Given as goal

abbrev pub invariant-loop-at : goal.invariant-loop-at
invariant-loop-at g l =
    let runs = map bounds l.sequence.runs.now in
    let r = get_or runs l.run (0, 0) in
    record {
      starts : r.0 ≤ l.at;
      ends : l.at ≤ l.end;
      end : l.end ≡ r.1;
      long : length l.classes ≡ length l.fn.classes;
      waiting : WaitsBelow runs l.self l.at;
      rest : (k : ℕ) → l.at ≤ k → class_at l.classes k ≡ class_at l.fn.classes k;
      reads : ReadsTo (len_at g.T.TextSource.encoding.len_of (g.T.TextSource.text l.sequence.text).chars) runs r.0 l.at l.fn.self l.self l.fn.classes l.classes;
      steps_at_least : l.fn.steps ≤ l.steps;
      steps_at_most : l.steps + 2 * count_below runs (resolved_to l.fn.self r.0) ≤ l.fn.steps + 2 * (l.at - r.0) + 2 * count_below runs (resolved_to l.self l.at);
      ended : l.end ≤ l.at → l.steps + 1 + 2 * count_below runs (resolved_to l.fn.self r.0) ≤ l.fn.steps + 2 * (r.1 - r.0) + 2 * count_below runs (resolved_to l.self l.at);
    }

abbrev pub decreases-loop-at : goal.decreases-loop-at
decreases-loop-at g l = l.end - l.at
