use Rattle.bidi_base.proofs.Common.{length, ap, sym, ◌∙◌}
use Rattle.bidi_base.proofs.PerUnit.{length-per_char}
use Rattle.bidi_base.proofs.UnitsLemmas.{length-from_IsPerChar}
use Rattle.bidi_lines.specs.LineLevels.{levels as levels_of}
use Rattle.bidi_calls.proofs.show.write_order.Goals as goal

pub keep_characters-requires-clause-units_same_len : goal.keep_characters-requires-clause-units_same_len
keep_characters-requires-clause-units_same_len g c = length-from_IsPerChar g.T.TextSource.encoding.len_of (g.T.TextSource.text c.args.text).chars (levels_of c.args.after_l1.now) c.requires.per_char

pub write_visual_order-requires : goal.write_visual_order-requires
write_visual_order-requires g c =
    let cs = (g.T.TextSource.text c.args.text).chars in
    let long = ap length (c.as_slice-else-runs-le-COUNTED_RUNS.ensures ∙ c.keep_characters.ensures) ∙ length-per_char 0 g.T.TextSource.encoding.len_of cs (levels_of c.args.after_l1.now) in
    c.requires.room ∙ sym long
