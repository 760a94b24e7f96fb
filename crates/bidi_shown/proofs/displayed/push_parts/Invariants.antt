use Rattle.bidi_base.proofs.Common.{◌≡◌, ◌++◌, flat_map, string_bytes, take, run_of, chars}
use Rattle.bidi_display.specs.Shown.{options}
use Rattle.bidi_shown.specs.Displayed.{displayed_part}
use Rattle.bidi_shown.specs.Paragraph.{analysed_in}
use Rattle.bidi_shown.specs.Views.{options_in}
use Rattle.bidi_shown.proofs.displayed.push_parts.Given as goal

abbrev pub invariant-loop-range : goal.invariant-loop-range
invariant-loop-range l = record {
  same : options l.line ≡ options_in l.view;
  written : string_bytes l.out
      ≡ string_bytes l.fn.out ++ flat_map (λ r. displayed_part l.view (analysed_in l.paragraph.analysis.now (chars l.paragraph.text.now)) l.paragraph.analysis.now.level (run_of r)) (take l.range-index l.ranges);
}
