use Rattle.bidi_base.proofs.Common.{◌≡◌, ◌++◌, take, flat_map, encode_utf8, string_bytes}
use Rattle.bidi_shown.proofs.characters.push_chars.Given as goal

abbrev pub invariant-loop-c : goal.invariant-loop-c
invariant-loop-c l = string_bytes l.out ≡ string_bytes l.fn.out ++ flat_map encode_utf8 (take l.c-index l.chars)
