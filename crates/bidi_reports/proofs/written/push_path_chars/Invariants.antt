use Rattle.std.proofs.Common.{◌≡◌, ◌++◌, flat_map, string_bytes, take}
use Rattle.bidi_reports.specs.Written.{written_char}
use Rattle.bidi_reports.proofs.written.push_path_chars.Given as goal

abbrev pub invariant-loop-c : goal.invariant-loop-c
invariant-loop-c l = string_bytes l.out ≡ string_bytes l.fn.out ++ flat_map written_char (take l.c-index l.chars)
