use Rattle.bidi_base.proofs.Common.{◌≡◌, take}
use Rattle.bidi_controls.specs.Displayed.{visible_ascii}
use Rattle.bidi_controls.proofs.displayed.write_visible_ascii.Given as goal

abbrev pub invariant-loop-c : goal.invariant-loop-c
invariant-loop-c l = l.out.items ≡ visible_ascii (take l.c-index l.chars)
