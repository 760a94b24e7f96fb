use Rattle.bidi_base.proofs.Common.{◌∙◌}
use Rattle.unicode_bidi.proofs.BaseLemmas.{undecided_at_zero}
use Rattle.unicode_bidi.proofs.base.is_undecided.Goals as goal

pub returns-else-eq : goal.returns-else-eq
returns-else-eq g c = undecided_at_zero _ c.level.result c.eq.result (c.level.ensures ∙ c.requires.level) c.eq.ensures c.if-eq.false
