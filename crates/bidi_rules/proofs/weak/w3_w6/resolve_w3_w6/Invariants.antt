-- The runs so far are changed.
use Rattle.bidi_base.proofs.Common.{◌+◌, ◌*◌, ◌≤◌, length, map, take, bounds, in_runs, units_in_runs}
use Rattle.bidi_base.specs.declared.char_data.BidiClass.TheVariants.{L}
use Rattle.bidi_base.specs.Updated.{IsUpdated}
use Rattle.bidi_rules.specs.WeakPass.{left_over}
use Rattle.bidi_rules.proofs.weak.w3_w6.resolve_w3_w6.Given as goal

abbrev pub invariant-loop-run : goal.invariant-loop-run
invariant-loop-run g l = record {
  changed : IsUpdated L (in_runs (take l.run-index (map bounds l.runs))) left_over 0 (length l.fn.classes) l.fn.classes l.classes;
  steps_at_least : l.fn.steps + length (units_in_runs (take l.run-index (map bounds l.runs))) ≤ l.steps;
  steps_at_most : l.steps ≤ l.fn.steps + 2 * length (units_in_runs (take l.run-index (map bounds l.runs)));
}
