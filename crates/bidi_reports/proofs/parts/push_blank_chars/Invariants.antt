use Rattle.bidi_base.proofs.Common.{◌≡◌, ◌++◌, take, flat_map, string_bytes}
use Rattle.bidi_reports.specs.Parts.{blanks, shown_columns}
use Rattle.bidi_reports.proofs.parts.push_blank_chars.Given as goal

abbrev pub invariant-loop-c : goal.invariant-loop-c
invariant-loop-c l = string_bytes l.out ≡ string_bytes l.fn.out ++ flat_map (λ c. blanks (shown_columns c)) (take l.c-index l.chars)
