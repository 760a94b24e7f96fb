use Rattle.bidi_base.proofs.Common.{◌≡◌, ◌++◌, replicate, flat_map, encode_utf8, string_bytes}
use Rattle.bidi_shown.proofs.displayed.push_spaced.Given as goal

abbrev pub invariant-loop-left : goal.invariant-loop-left
invariant-loop-left l =
    string_bytes l.out ++ flat_map encode_utf8 (replicate l.left 0x20) ≡ string_bytes l.fn.out ++ flat_map encode_utf8 (replicate l.columns 0x20)

abbrev pub decreases-loop-left : goal.decreases-loop-left
decreases-loop-left l = l.left
