use Rattle.bidi_base.proofs.Common.{◌+◌, ◌≤◌, arith, rules, IsLine}
use Rattle.bidi_calls.proofs.OrderOfRuns.{index-after, index-before, char_index-le-unit}
use Rattle.bidi_calls.proofs.char_order.index_at.Goals as goal

pub overflow_add-result : goal.overflow_add-result
overflow_add-result g c =
    let len = g.T.TextSource.encoding.len_of in
    let cs = (g.T.TextSource.text c.args.text).chars in
    let line : IsLine len cs c.args.near c.args.at = record { ordered = c.if-near-at.true; begins = c.requires.near; ends = c.requires.at } in
    let sum = index-after len g.T.TextSource.encoding.positive cs c.args.near c.args.at c.args.before c.count_in.result line c.requires.before c.count_in.ensures in
    let below : c.args.before + c.count_in.result ≤ c.args.at = omega (arith, sum, char_index-le-unit len g.T.TextSource.encoding.positive cs c.args.at c.requires.at) in
    search rules

pub returns-then-near-at : goal.returns-then-near-at
returns-then-near-at g c =
    index-after g.T.TextSource.encoding.len_of g.T.TextSource.encoding.positive (g.T.TextSource.text c.args.text).chars c.args.near c.args.at c.args.before c.count_in.result
    (record { ordered = c.if-near-at.true; begins = c.requires.near; ends = c.requires.at }) c.requires.before c.count_in.ensures

pub returns-else-near-at : goal.returns-else-near-at
returns-else-near-at g c =
    index-before g.T.TextSource.encoding.len_of g.T.TextSource.encoding.positive (g.T.TextSource.text c.args.text).chars c.args.at c.args.near c.args.before c.count_in-else-near-at.result
    (record { ordered = omega (arith, c.if-near-at.false); begins = c.requires.at; ends = c.requires.near }) c.requires.before c.count_in-else-near-at.ensures
