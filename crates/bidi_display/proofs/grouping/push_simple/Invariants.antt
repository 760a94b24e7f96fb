use Rattle.bidi_base.proofs.Common.{◌≡◌, ◌≤◌, ◌<◌, ◌-◌, true, get_or, length}
use Rattle.bidi_display.specs.Grouping.{IsFoundPast, IsFoundTo}
use Rattle.bidi_display.specs.Joining.{is_simple}
use Rattle.bidi_display.specs.declared.grouping.Joining.{Joining}
use Rattle.bidi_display.specs.declared.line_char.LineChar.{LineChar}
use Rattle.bidi_display.specs.declared.options.DisplayOptions.{DisplayOptions}
use Rattle.bidi_display.proofs.grouping.push_simple.Given as goal

abbrev pub invariant-loop-simple : goal.invariant-loop-simple
invariant-loop-simple g l =
    let width_of = g.W.ClusterWidth.width_of l.widths in
    record {
      advances : l.from ≤ l.at;
      within : l.at ≤ length l.chars;
      inside : l.simple ≡ true → l.at < length l.chars;
      simple : l.simple ≡ true → (c : LineChar) → c ≡ get_or l.chars l.at c → is_simple c ≡ true;
      found : (options : DisplayOptions) (joining : Joining) → IsFoundTo options width_of l.chars l.from l.initial.column joining l.initial.out.items
          → IsFoundPast options width_of l.chars l.from l.at l.column joining l.out.items;
    }

abbrev pub decreases-loop-simple : goal.decreases-loop-simple
decreases-loop-simple g l = length l.chars - l.at
