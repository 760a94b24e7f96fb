use Rattle.bidi_base.proofs.Common.{◌≡◌, ◌∙◌, None, [], ◌∷◌, length, map, ap, arith, rules, text_len, IsAnalysis, paragraph_level, one_unit}
use Rattle.bidi_laws.proofs.LevelLaws.{paragraph_level-few}
use Rattle.unicode_bidi.proofs.AloneLemmas.{alone-classes, alone-levels, alone-level, length-alone_levels}
use Rattle.bidi_explain.proofs.stages.find_stages.Given.{Over}
use Rattle.bidi_explain.proofs.stages.find_stages.Goals as goal
use Rattle.bidi_explain.proofs.stages.find_stages.Goals.{In_ok-find}

-- the paragraph is analysed
alone : (g : Over) (c : In_ok-find g) → IsAnalysis (g.D.BidiDataSource.source c.args.data_source.now) c.args.base_level None
    (record { len_of = one_unit; chars = c.args.chars.now; classes = c.find.new.self.classes.items; levels = c.find.new.self.levels.items })
    ((0, text_len one_unit c.args.chars.now) ∷ []) (c.find.new.self.level ∷ [])
alone g c = grind arith

level_is : (g : Over) (c : In_ok-find g) → c.find.new.self.level ≡ paragraph_level c.args.base_level (map (g.D.BidiDataSource.source c.args.data_source.now).class_of c.args.chars.now)
level_is g c = alone-level _ _ _ _ _ _ _ (alone g c)

pub stages_of-requires-clause-low : goal.stages_of-requires-clause-low
stages_of-requires-clause-low g c = search (rules, level_is, paragraph_level-few)

pub stages_of-requires-clause-stored : goal.stages_of-requires-clause-stored
stages_of-requires-clause-stored g c =
    c.as_slice.ensures.value ∙ alone-classes _ _ _ _ _ _ _ (alone g (goal.at.stages_of-requires-clause-stored g c).In_ok-find)

pub stages_of-requires-clause-same_len : goal.stages_of-requires-clause-same_len
stages_of-requires-clause-same_len g c =
    ap length c.as_slice-2.ensures.value ∙ length-alone_levels _ _ _ _ _ _ _ (alone g (goal.at.stages_of-requires-clause-same_len g c).In_ok-find)

pub returns : goal.returns
returns g c =
    let at : In_ok-find g = (goal.at.returns g c).In_ok-find in
    simp (c.as_slice-2.ensures.value ∙ alone-levels _ _ _ _ _ _ _ (alone g at), level_is g at) at c.stages_of.ensures
