use Rattle.bidi_base.proofs.Common.{◌≡◌, ◌++◌, take, flat_map, string_bytes, run_of, chars}
use Rattle.bidi_shown.specs.Paragraph.{analysed_in, shown_in}
use Rattle.bidi_shown.proofs.plain.push_lines.Given as goal

abbrev pub invariant-loop-line : goal.invariant-loop-line
invariant-loop-line l = string_bytes l.out
    ≡ string_bytes l.fn.out ++ flat_map (λ r. shown_in (analysed_in l.paragraph.analysis.now (chars l.paragraph.text.now)) l.paragraph.analysis.now.level (run_of r)) (take l.line-index l.lines)
