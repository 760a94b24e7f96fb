use Rattle.bidi_base.proofs.Common.{None, Some, [], ◌∷◌, ap, ◌∙◌, arith, length-map, line_levels, one_unit, text_len, IsAnalysis}
use Rattle.bidi_laws.proofs.StoredSteps.{length-stored_classes}
use Rattle.unicode_bidi.proofs.AloneLemmas.{alone-classes, length-alone_levels}
use Rattle.unicode_bidi.proofs.WholeText.{written-front}
use Rattle.bidi_controls.proofs.LineLevels.{displayed_levels-alone}
use Rattle.bidi_controls.proofs.displayed.Display.find_levels.Given.{Over}
use Rattle.bidi_controls.proofs.displayed.Display.find_levels.Goals as goal
use Rattle.bidi_controls.proofs.displayed.Display.find_levels.Goals.{In_ok-find}

-- the line is analysed as one paragraph
alone : (g : Over) (c : In_ok-find g) → IsAnalysis (g.D.BidiDataSource.source c.args.data_source.now) (Some c.args.base_level) None
    (record { len_of = one_unit; chars = c.args.line.now; classes = c.find.new.self.classes.items; levels = c.find.new.self.levels.items })
    ((0, text_len one_unit c.args.line.now) ∷ []) (c.find.new.self.level ∷ [])
alone g c = grind arith

pub reset_levels-requires : goal.reset_levels-requires
reset_levels-requires g c =
    let h = alone g (goal.at.reset_levels-requires g c).In_ok-find in
    grind (arith, alone-classes _ _ _ _ _ _ _ h, length-alone_levels _ _ _ _ _ _ _ h, length-stored_classes, length-map)

pub returns : goal.returns
returns g c =
    let analysis = c.find.new.self in
    ap (λ levels. levels.items) c.swap.ensures.x_after
    ∙ written-front analysis.levels.len c.reset_levels.new.levels _ (omega (arith, c.reset_levels.auto.levels, c.as_mut_slice.ensures.len))
    ∙ c.reset_levels.ensures
    ∙ ap (λ classes. line_levels analysis.level classes c.as_mut_slice.result.now) c.as_slice-classes.ensures.value
    ∙ ap (line_levels analysis.level analysis.classes.items) c.as_mut_slice.ensures.value
    ∙ displayed_levels-alone _ _ _ _ _ _ _ (alone g (goal.at.returns g c).In_ok-find)
