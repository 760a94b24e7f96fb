use Rattle.bidi_base.proofs.Common.{◌≡◌, map, take, decimal, string_bytes, join_with_byte}
use Rattle.std.specs.Str.{byte}
use Rattle.bidi_show_run.proofs.answers.number_line.Given as goal

abbrev pub invariant-loop-place : goal.invariant-loop-place
invariant-loop-place l = string_bytes l.line ≡ join_with_byte (byte " ") (map decimal (take l.place l.numbers))
