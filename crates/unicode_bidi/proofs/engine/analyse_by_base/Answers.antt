use Rattle.bidi_base.proofs.Common.{arith}
use Rattle.unicode_bidi.proofs.WholeText.{written-front}
use Rattle.unicode_bidi.proofs.engine.analyse_by_base.Goals as goal

pub returns-clause-analysis : goal.returns-clause-analysis
returns-clause-analysis g c =
    rw (
      written-front c.in_ok-original_classes.original_classes.len c.analyse_with_base.new.classes _ (omega (arith, c.analyse_with_base.auto.classes, c.as_mut_slice.ensures.len)),
      written-front c.in_ok-levels.levels.len c.analyse_with_base.new.levels _ (omega (arith, c.analyse_with_base.auto.levels, c.as_mut_slice-2.ensures.len)),
    )
    c.in_ok-analyse_with_base.ensures.analysis
