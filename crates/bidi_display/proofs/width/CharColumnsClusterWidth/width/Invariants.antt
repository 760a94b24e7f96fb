use Rattle.bidi_base.proofs.Common.{◌≡◌}
use Rattle.bidi_display.specs.Widths.{sum_of_columns}
use Rattle.bidi_display.proofs.width.CharColumnsClusterWidth.width.Given as goal

abbrev pub invariant-loop-c : goal.invariant-loop-c
invariant-loop-c l = l.width ≡ sum_of_columns l.self.wide_ambiguous l.yielded
