use Rattle.bidi_base.proofs.Common.{◌≡◌, ◌++◌, take, flat_map, string_bytes}
use Rattle.bidi_terminal.specs.Json.{json_char}
use Rattle.bidi_terminal.proofs.json_text.push_chars.Given as goal

abbrev pub invariant-loop-c : goal.invariant-loop-c
invariant-loop-c l = string_bytes l.out ≡ string_bytes l.fn.out ++ flat_map json_char (take l.c-index l.chars)
