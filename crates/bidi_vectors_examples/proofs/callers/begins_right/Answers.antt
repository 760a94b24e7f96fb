use Rattle.bidi_base.proofs.Common.{◌≡◌, ◌∙◌, ap, map, chars, None, paragraph_level}
use Rattle.bidi_base.specs.Levels.{is_odd}
use Rattle.bidi_laws.proofs.OneParagraph.{para_level-one}
use Rattle.bidi_vectors_examples.proofs.callers.begins_right.Goals as goal

pub returns : goal.returns
returns g c =
    let source = g.D.BidiDataSource.source c.args.source.now in
    let is = c.in_ok-info.ensures.constructs in
    let level : c.in_ok-info.info.paragraph_level ≡ paragraph_level None (map source.class_of (chars c.args.caption.now)) =
    cc (para_level-one _ _ _ _ _ is.analysis, is.text) in
    c.is_rtl.ensures ∙ ap is_odd (c.paragraph_level.ensures ∙ level)
