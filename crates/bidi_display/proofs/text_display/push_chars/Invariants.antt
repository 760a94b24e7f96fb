use Rattle.bidi_base.proofs.Common.{◌≡◌, ◌++◌, flat_map, encode_utf8}
use Rattle.std.proofs.Common.{string_bytes}
use Rattle.bidi_display.proofs.text_display.push_chars.Given as goal

abbrev pub invariant-loop-c : goal.invariant-loop-c
invariant-loop-c g l =
    (goal.iterator-loop-c g).can_next l.c-iterator
    × (goal.iterator-loop-c g).is_finite l.c-iterator
    × (string_bytes l.out ≡ string_bytes l.fn.out ++ flat_map encode_utf8 l.yielded)
