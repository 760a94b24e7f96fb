use Rattle.bidi_base.proofs.Common.{◌≡◌, map, take}
use Rattle.bidi_controls.specs.Displayed.{shown_char, without_controls}
use Rattle.bidi_controls.proofs.displayed.write_in_order.Given as goal

abbrev pub invariant-loop-index : goal.invariant-loop-index
invariant-loop-index g l =
    l.out.items ≡ without_controls (g.D.BidiDataSource.source l.fn.data_source) (map (shown_char l.levels l.line) (take l.index-index l.order))
