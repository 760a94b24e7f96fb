use Rattle.bidi_base.proofs.Common.{◌≡◌, take}
use Rattle.std.specs.List.{count_by}
use Rattle.bidi_calls.specs.LineParts.{begins_character}
use Rattle.bidi_calls.proofs.counted.count_few.Given as goal

-- the characters that have begun so far
abbrev pub invariant-loop-byte : goal.invariant-loop-byte
invariant-loop-byte l = l.count ≡ count_by begins_character (take l.byte-index l.bytes)
