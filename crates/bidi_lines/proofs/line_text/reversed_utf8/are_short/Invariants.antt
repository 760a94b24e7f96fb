use Rattle.bidi_base.proofs.Common.{◌≡◌, nat_lt, take, list_all}
use Rattle.bidi_lines.proofs.line_text.reversed_utf8.are_short.Given as goal

-- the greatest byte so far tells whether all are short
abbrev pub invariant-loop-byte : goal.invariant-loop-byte
invariant-loop-byte l = nat_lt l.greatest 0xF0 ≡ list_all (λ b. nat_lt b 0xF0) (take l.byte-index l.bytes)
