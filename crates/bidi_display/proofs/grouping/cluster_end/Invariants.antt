use Rattle.bidi_base.proofs.Common.{◌≡◌, ◌+◌, ◌<◌, ◌≤◌, ◌∷◌, List, drop, false}
use Rattle.bidi_display.specs.Grouping.{IsReadTo}
use Rattle.bidi_display.specs.Joining.{joining_after}
use Rattle.bidi_display.specs.LineClusters.{is_dropped}
use Rattle.bidi_display.specs.declared.line_char.LineChar.{LineChar}
use Rattle.bidi_display.specs.declared.options.DisplayOptions.{DisplayOptions}
use Rattle.bidi_display.proofs.grouping.cluster_end.Given as goal

abbrev pub invariant-loop-skipped : goal.invariant-loop-skipped
invariant-loop-skipped l = record {
  advances : l.from < l.end;
  ends : l.end ≤ l.from + 1 + l.skipped;
  same : l.ahead ≡ l.joining;
  read : (options : DisplayOptions) (before rest : List LineChar) (c : LineChar) → options.dropped ≡ l.dropped → drop l.from l.chars ≡ c ∷ rest → is_dropped l.dropped c ≡ false
      → l.initial.joining ≡ joining_after options.moves (c ∷ before) → IsReadTo options l.chars l.from before l.end (l.from + 1 + l.skipped) l.joining;
}
