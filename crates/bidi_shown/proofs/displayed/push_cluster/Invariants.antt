use Rattle.bidi_base.proofs.Common.{◌≡◌, ◌++◌, flat_map, encode_utf8, string_bytes, take}
use Rattle.bidi_display.specs.Shown.{displayed_part}
use Rattle.bidi_shown.specs.Displayed.{spaced}
use Rattle.bidi_shown.specs.Views.{mirrored_in, options_in}
use Rattle.bidi_shown.proofs.displayed.push_cluster.Given as goal

abbrev pub invariant-loop-c : goal.invariant-loop-c
invariant-loop-c l = string_bytes l.out
    ≡ string_bytes l.fn.out ++ flat_map encode_utf8 (flat_map (spaced l.columns) (displayed_part (options_in l.view) (mirrored_in l.view) (take l.c-index l.chars)))
