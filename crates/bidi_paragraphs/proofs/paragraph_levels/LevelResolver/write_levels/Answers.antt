-- The shortcut, and what X9 removed.
use Rattle.bidi_base.proofs.Common.{◌∙◌, List, ℕ, map, sym, arith, length-map}
use Rattle.bidi_base.proofs.PerUnit.{length-per_unit}
use Rattle.bidi_laws.proofs.StoredSteps.{length-stored_classes}
use Rattle.bidi_base.proofs.TextLemmas.{length-le-text_len}
use Rattle.bidi_paragraphs.proofs.FilledUnits.{filled-levels_in, kept_to_levels, all_kept}
use Rattle.bidi_paragraphs.proofs.FlagsLemmas.{keeps_to-flags, has_removed-flags, some-keeps_to}
use Rattle.bidi_paragraphs.proofs.paragraph_levels.LevelResolver.write_levels.Goals as goal

pub returns-then-keeps_to : goal.returns-then-keeps_to
returns-then-keeps_to g c =
    let cs : List ℕ = (g.T.TextSource.text c.args.paragraph.now.text).chars in
    let given = g.D.BidiDataSource.source c.args.paragraph.now.data_source.now in
    let keeps = sym (keeps_to-flags _ _ c.args.paragraph.now.own_flags _) ∙ sym c.keeps_to.ensures ∙ c.if-keeps_to.true in
    kept_to_levels _ cs _ (map given.bracket_of cs) _ _ _ (length-map cs given.class_of) c.requires keeps (c.fill.ensures.after (λ y e. e))

pub fill_removed-requires : goal.fill_removed-requires
fill_removed-requires g c = grind (arith, length-per_unit, length-stored_classes, length-map)

pub resolve_with_new_count-requires-clause-some : goal.resolve_with_new_count-requires-clause-some
resolve_with_new_count-requires-clause-some g c =
    let cs : List ℕ = (g.T.TextSource.text c.args.paragraph.now.text).chars in
    let class_of = (g.D.BidiDataSource.source c.args.paragraph.now.data_source.now).class_of in
    let leaves = sym (keeps_to-flags c.args.paragraph.now.flags (map class_of cs) c.args.paragraph.now.own_flags c.args.paragraph.now.level)
    ∙ sym c.keeps_to.ensures ∙ c.if-keeps_to.false in
    omega (arith, c.requires, some-keeps_to c.args.paragraph.now.level (map class_of cs) leaves, length-map cs class_of, length-le-text_len _ g.T.TextSource.encoding.positive cs)

pub returns-then-has_removed : goal.returns-then-has_removed
returns-then-has_removed g c = grind (arith, length-stored_classes, length-map, filled-levels_in, length-per_unit)

pub returns-else-has_removed : goal.returns-else-has_removed
returns-else-has_removed g c = grind (arith, length-stored_classes, length-map, has_removed-flags, all_kept, filled-levels_in, length-per_unit)
