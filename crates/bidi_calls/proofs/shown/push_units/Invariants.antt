use Rattle.bidi_base.proofs.Common.{◌≡◌, ◌++◌, flat_map, take}
use Rattle.bidi_display.specs.Shown.{displayed_part}
use Rattle.bidi_calls.proofs.shown.push_units.Given as goal

abbrev pub invariant-loop-c : goal.invariant-loop-c
invariant-loop-c g l = l.out.items ≡ l.fn.out.items
    ++ flat_map g.T.LineText.encode (displayed_part l.options (g.M.MirroredCharacters.mirrored_of l.mirrors) (take l.c-index l.chars))
