use Rattle.bidi_base.proofs.Common.{◌≤◌, length, arith, text_len}
use Rattle.bidi_lines.specs.LineLevels.{levels as levels_of}
use Rattle.bidi_calls.proofs.CountLemmas.{per_char-plain}
use Rattle.bidi_calls.proofs.line_text.keep_first_units.Goals as goal

pub returns-else-not-has_one_unit_each : goal.returns-else-not-has_one_unit_each
returns-else-not-has_one_unit_each g c =
    let cs = (g.T.TextSource.text c.args.text).chars in
    let fits : text_len g.T.TextSource.encoding.len_of cs ≤ length cs = omega (arith, c.has_one_unit_each.ensures c.if-not-has_one_unit_each.false) in
    per_char-plain g.T.TextSource.encoding.len_of g.T.TextSource.encoding.positive cs (levels_of c.args.after_l1.now) fits c.requires
