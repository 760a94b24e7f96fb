use Rattle.std.proofs.lemmas.List.{take_min}
use Rattle.bidi_controls.specs.Decoded.{prefix_of}
use Rattle.bidi_controls.proofs.decode.prefix_of.Goals as goal

pub returns : goal.returns
unfolding prefix_of
returns c = rw c.min.ensures (take_min 8000 c.args.bytes.now)
