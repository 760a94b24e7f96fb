use Rattle.bidi_base.proofs.BracketRules.{with_bracket-filled}
use Rattle.bidi_base.proofs.neutrals.set_direction.Goals as goal

pub returns : goal.returns
returns c =
    let a = c.args in
    with_bracket-filled a.original_classes.now a.classes.now c.fill.new.self a.bracket c.marks.result a.direction c.requires.same_len c.requires.bracket c.marks.ensures.count (c.fill.ensures.after (λ y e. e))
