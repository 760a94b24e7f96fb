use Rattle.bidi_base.proofs.Common.{arith, ap}
use Rattle.std.specs.List.{count_by}
use Rattle.bidi_calls.proofs.CountLemmas.{count-utf8}
use Rattle.bidi_calls.specs.LineParts.{begins_character}
use Rattle.bidi_calls.proofs.counted.count_utf8.Goals as goal

pub returns : goal.returns
returns c = grind (
  arith,
  c.loop-rest.invariant.counted,
  ap (count_by begins_character) c.as_bytes-rest.ensures.value,
  count-utf8 c.args.text.now c.utf8.text,
)
