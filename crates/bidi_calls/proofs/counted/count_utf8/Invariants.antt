use Rattle.bidi_base.proofs.Common.{◌≡◌, ◌+◌, ◌≤◌, length}
use Rattle.std.specs.List.{count_by}
use Rattle.bidi_calls.specs.LineParts.{begins_character}
use Rattle.bidi_calls.proofs.counted.count_utf8.Given as goal

-- the characters that have begun, and those of the rest
abbrev pub invariant-loop-rest : goal.invariant-loop-rest
invariant-loop-rest l = record {
  counted : l.count + count_by begins_character l.rest ≡ count_by begins_character l.initial.rest;
  within : l.count + length l.rest ≤ length l.initial.rest;
}

abbrev pub decreases-loop-rest : goal.decreases-loop-rest
decreases-loop-rest l = length l.rest
