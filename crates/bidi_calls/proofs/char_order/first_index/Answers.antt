use Rattle.bidi_base.proofs.Common.{◌≡◌, arith, ap, ◌∙◌, char_index}
use Rattle.bidi_calls.proofs.OrderOfRuns.{index-before}
use Rattle.bidi_calls.proofs.char_order.first_index.Goals as goal

pub returns-then-run-left : goal.returns-then-run-left
returns-then-run-left g c =
    let len = g.T.TextSource.encoding.len_of in
    let cs = (g.T.TextSource.text c.args.text).chars in
    let touch : c.args.left.now.start ≡ c.args.run.now.end = grind (arith, c.if-run-left.true) in
    index-before len g.T.TextSource.encoding.positive cs c.args.run.now.start c.args.run.now.end c.args.indexes.now.start c.args.count
    c.requires.is_line (c.requires.begins ∙ ap (char_index len cs) touch) c.requires.count
