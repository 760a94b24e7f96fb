-- The units before the run are read, with at most two iterations for each, and two more for each that is resolved.
use Rattle.bidi_base.proofs.Common.{◌+◌, ◌*◌, ◌≤◌, length, map, bounds}
use Rattle.bidi_rules.specs.WeakWalk.{len_at, resolved_to, IsUnderWay, WaitsBelow}
use Rattle.bidi_explicit.specs.SequenceUnits.{count_below}
use Rattle.bidi_explicit.proofs.InRuns.{start_or}
use Rattle.bidi_rules.proofs.weak.w2_w4_w5_w7.resolve_numbers.Given as goal

abbrev pub invariant-loop-run : goal.invariant-loop-run
invariant-loop-run g l =
    let runs = map bounds l.runs in
    let next = start_or runs l.run (length l.fn.classes) in
    record {
      waiting : WaitsBelow runs l.walk next;
      under_way : IsUnderWay (record { runs = runs; sos = l.fn.sos; old = l.fn.classes; len = len_at g.T.TextSource.encoding.len_of (g.T.TextSource.text l.fn.text).chars }) l.classes l.walk next;
      steps_at_least : l.fn.steps ≤ l.steps;
      steps_at_most : l.steps ≤ l.fn.steps + 2 * count_below runs next + 2 * count_below runs (resolved_to l.walk next);
    }
