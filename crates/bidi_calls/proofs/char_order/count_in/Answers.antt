use Rattle.bidi_base.proofs.Common.{arith}
use Rattle.bidi_calls.proofs.OrderOfRuns.{length-subrange-plain}
use Rattle.bidi_calls.proofs.char_order.count_in.Goals as goal

pub returns-then-are_chars : goal.returns-then-are_chars
returns-then-are_chars g c =
    length-subrange-plain g.T.TextSource.encoding.len_of g.T.TextSource.encoding.positive (g.T.TextSource.text c.args.text).chars (c.requires.are_chars (grind arith)) c.args.units.start c.args.units.end c.requires.is_line
