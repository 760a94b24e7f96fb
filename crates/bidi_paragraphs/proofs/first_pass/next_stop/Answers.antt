use Rattle.bidi_base.proofs.Common.{arith}
use Rattle.bidi_base.proofs.TextLemmas.{is_boundary-le}
use Rattle.bidi_paragraphs.specs.FirstPass.{stops_at}
use Rattle.bidi_paragraphs.proofs.first_pass.next_stop.Goals as goal

pub overflow_sub-classes : goal.overflow_sub-classes
overflow_sub-classes g c = omega (arith, c.requires.sized, is_boundary-le g.T.TextSource.encoding.len_of (g.T.TextSource.text c.args.text).chars c.args.from c.requires.begins)

pub returns-then-classes-from-ge-AT_ONCE-clause-stop : goal.returns-then-classes-from-ge-AT_ONCE-clause-stop
returns-then-classes-from-ge-AT_ONCE-clause-stop g c = c.read_next.ensures (stops_at c.args.state.now) c.args.state.now.flags
