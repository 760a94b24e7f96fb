-- The brackets of the runs so far are read.
use Rattle.bidi_base.proofs.Common.{map, take, HasRead, bounds, kept_in_place}
use Rattle.bidi_rules.specs.NeutralPass.{placed_brackets}
use Rattle.bidi_rules.proofs.neutral.NeutralResolver.gather.Given as goal

abbrev pub invariant-loop-run : goal.invariant-loop-run
invariant-loop-run g l =
    let len_of = g.T.TextSource.encoding.len_of in
    let chars = (g.T.TextSource.text l.fn.text).chars in
    HasRead l.self.search (placed_brackets len_of chars (g.D.BidiDataSource.source l.data_source) l.classes (kept_in_place len_of chars l.classes (map bounds (take l.run-index l.runs))))
