-- What the characters so far have left. There were at most four steps for each character or code unit, except for those
-- that an opener paid with an entry of the stack.
use Rattle.bidi_base.proofs.Common.{◌+◌, ◌*◌, ◌-◌, ◌≤◌, map, bounds}
use Rattle.bidi_base.specs.Texts.{char_index}
use Rattle.bidi_explicit.specs.ExplicitStretches.{paragraph_of, IsReadTo}
use Rattle.bidi_explicit.specs.Status.{entry_count}
use Rattle.bidi_explicit.specs.StepUnit.{count_to, least_of}
use Rattle.bidi_explicit.proofs.explicit.find_levels_counted.Given as goal

abbrev pub invariant-loop-at : goal.invariant-loop-at
invariant-loop-at g l =
    let text = g.T.TextSource.text l.paragraph.text in
    IsReadTo (paragraph_of text l.paragraph.level l.original_classes) l.at l.stack l.levels l.classes (map bounds l.runs.items) l.run
    × (l.fn.steps + least_of l.paragraph.step_unit (char_index text l.at) ≤ l.steps)
    × (l.steps + entry_count l.stack ≤ l.fn.steps + (4 * count_to l.paragraph.step_unit text l.at + 1))

abbrev pub decreases-loop-at : goal.decreases-loop-at
decreases-loop-at g l = l.units - l.at
