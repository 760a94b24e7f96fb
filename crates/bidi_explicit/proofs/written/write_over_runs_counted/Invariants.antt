-- The runs so far are written, and where each of them ends after `from` it has a unit there.
use Rattle.bidi_base.proofs.Common.{◌+◌, ◌-◌, ◌*◌, ◌<◌, ◌≤◌, length, map, take, get_or, bounds}
use Rattle.bidi_explicit.specs.SequenceUnits.{count_below, is_seen, IsWrittenOver}
use Rattle.bidi_explicit.proofs.written.write_over_runs_counted.Given as goal

abbrev pub invariant-loop-class : goal.invariant-loop-class
invariant-loop-class g l =
    let runs = map bounds l.runs in
    let so_far = take l.index runs in
    record {
      fits : l.index ≤ length l.runs;
      written : IsWrittenOver (is_seen so_far l.fn.classes) l.class l.from l.to l.fn.classes l.classes;
      steps_at_least : l.fn.steps ≤ l.steps;
      steps_at_most : l.from < l.to → l.from < (get_or runs 0 (0, 0)).1 → l.steps + 2 * count_below so_far l.from ≤ l.fn.steps + 2 * count_below so_far l.to;
    }

abbrev pub decreases-loop-class : goal.decreases-loop-class
decreases-loop-class g l = length l.runs - l.index
