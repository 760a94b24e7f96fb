use Rattle.std.proofs.Common.{◌≡◌, ◌++◌, flat_map, encode_utf8, string_bytes, take}
use Rattle.bidi_display.specs.Shown.{displayed_part}
use Rattle.bidi_display.proofs.text.push_displayed.Given as goal

abbrev pub invariant-loop-c : goal.invariant-loop-c
invariant-loop-c g l = string_bytes l.out ≡ string_bytes l.fn.out ++ flat_map encode_utf8 (displayed_part l.options (g.M.MirroredCharacters.mirrored_of l.mirrors) (take l.c-index l.chars))
