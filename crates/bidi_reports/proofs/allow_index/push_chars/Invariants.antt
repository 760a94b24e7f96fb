use Rattle.std.proofs.Common.{◌≡◌, ◌++◌, encode_utf8, flat_map, string_bytes, take}
use Rattle.bidi_reports.proofs.allow_index.push_chars.Given as goal

abbrev pub invariant-loop-c : goal.invariant-loop-c
invariant-loop-c l = string_bytes l.out ≡ string_bytes l.fn.out ++ flat_map encode_utf8 (take l.c-index l.chars)
