use Rattle.bidi_base.proofs.Common.{◌-◌, ◌∙◌, ap, sym, visual_order, length-take-le}
use Rattle.bidi_base.proofs.UnitIndexLemmas.{text_len-subrange}
use Rattle.bidi_lines.specs.LineLevels.{levels as levels_in}
use Rattle.bidi_lines.specs.ShownLine.{text_of}
use Rattle.bidi_lines.proofs.ShownLines.{on_ok, chars_of_shown}
use Rattle.bidi_lines.proofs.shown_line.ShownLine.write_order.Goals as goal

pub gather_levels-requires : goal.gather_levels-requires
gather_levels-requires g c =
    let s = c.args.self.now in
    rw (c.as_slice.ensures, c.subrange-line.ensures)
    (length-take-le (s.end - s.start) (levels_in s.levels) s.one_per_unit
    ∙ sym (text_len-subrange g.T.TextSource.encoding.len_of g.T.TextSource.encoding.positive (g.T.TextSource.text (text_of s)).chars s.start s.end s.is_line))

pub returns-clause-order : goal.returns-clause-order
returns-clause-order g c a level line shows =
    on_ok c.replace_order.result (λ same. same ∙ ap visual_order (c.as_slice-2.ensures.value ∙ c.in_ok-gather_levels.ensures ∙ rw (c.subrange-line.ensures, c.as_slice.ensures) (chars_of_shown c.args.self.now g.T.TextSource.encoding.positive a level line shows))) c.replace_order.ensures.order
