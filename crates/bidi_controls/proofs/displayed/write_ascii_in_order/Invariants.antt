use Rattle.bidi_base.proofs.Common.{◌≡◌, map, take}
use Rattle.bidi_controls.specs.Displayed.{shown_char, visible_ascii}
use Rattle.bidi_controls.proofs.displayed.write_ascii_in_order.Given as goal

abbrev pub invariant-loop-index : goal.invariant-loop-index
invariant-loop-index l = l.out.items ≡ visible_ascii (map (shown_char l.levels l.line) (take l.index-index l.order))
