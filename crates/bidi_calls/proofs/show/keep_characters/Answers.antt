use Rattle.bidi_base.proofs.Common.{◌≤◌, length, ap, arith, text_len}
use Rattle.bidi_lines.specs.LineLevels.{levels as levels_of}
use Rattle.bidi_calls.proofs.CountLemmas.{per_char-plain}
use Rattle.bidi_calls.proofs.show.keep_characters.Goals as goal

pub returns-else-len-as_slice : goal.returns-else-len-as_slice
returns-else-len-as_slice g c =
    let cs = (g.T.TextSource.text c.args.text).chars in
    let fits : text_len g.T.TextSource.encoding.len_of cs ≤ length cs = omega (arith, c.if-len-as_slice.false, ap length c.as_slice.ensures, c.requires.same_len, c.requires.units_same_len) in
    per_char-plain g.T.TextSource.encoding.len_of g.T.TextSource.encoding.positive cs (levels_of c.args.after_l1.now) fits c.requires.units_same_len
