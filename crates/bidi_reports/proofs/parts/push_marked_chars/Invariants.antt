use Rattle.bidi_base.proofs.Common.{◌≡◌, ◌++◌, take, flat_map, string_bytes}
use Rattle.bidi_reports.specs.Parts.{marked_char}
use Rattle.bidi_reports.proofs.parts.push_marked_chars.Given as goal

abbrev pub invariant-loop-c : goal.invariant-loop-c
invariant-loop-c l = string_bytes l.out ≡ string_bytes l.fn.out ++ flat_map (marked_char l.escapes l.colors) (take l.c-index l.chars)
