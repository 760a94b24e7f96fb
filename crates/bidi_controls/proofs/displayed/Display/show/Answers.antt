use Rattle.bidi_base.proofs.Common.{◌∙◌, ap}
use Rattle.bidi_controls.specs.Displayed.{shown_ascii, shown_in_order, visible_ascii}
use Rattle.bidi_controls.proofs.DisplayedLemmas.{levels_long}
use Rattle.bidi_controls.proofs.displayed.Display.show.Goals as goal

pub write_ascii-requires : goal.write_ascii-requires
write_ascii-requires g c =
    levels_long (g.D.BidiDataSource.source c.args.data_source.now) c.args.base_level c.args.line.now c.as_slice.result.now (c.as_slice.ensures.value ∙ c.in_ok-find_levels.ensures)

pub returns-clause-shown : goal.returns-clause-shown
unfolding shown_ascii
returns-clause-shown g c = record {
  levels = c.in_ok-find_levels.ensures;
  ascii = c.in_ok-write_ascii.ensures ∙ ap (λ levels. visible_ascii (shown_in_order levels c.args.line.now)) (c.as_slice.ensures.value ∙ c.in_ok-find_levels.ensures);
}
