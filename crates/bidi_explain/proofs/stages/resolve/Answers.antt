use Rattle.bidi_base.proofs.Common.{◌∙◌, arith, common_steps}
use Rattle.bidi_explain.specs.Stages.{row_of}
use Rattle.bidi_explain.proofs.StagesLemmas.{length-written, written-more}
use Rattle.bidi_explain.proofs.stages.resolve.Goals as goal

pub loop-sequence-preserved : goal.loop-sequence-preserved
loop-sequence-preserved c =
    let weak_written = simp (c.places.ensures, c.as_slice-in-loop-sequence.ensures.value, c.in_ok-weak.ensures.classes) at c.write_row.ensures in
    let neutral_written = simp (c.places-in-loop-sequence.ensures, c.as_slice-in-loop-sequence-2.ensures.value, c.in_ok-neutral.ensures.classes) at c.write_row-in-loop-sequence.ensures in
    record {
      weak_long = simp (weak_written, length-written, c.loop-sequence.invariant.weak_long);
      neutral_long = simp (neutral_written, length-written, c.loop-sequence.invariant.neutral_long);
      weak = weak_written ∙ written-more _ _ _ _ _ _ c.sequence-item.result c.loop-sequence-test.true c.sequence-item.is c.loop-sequence.invariant.weak;
      neutral = neutral_written ∙ written-more _ _ _ _ _ _ c.sequence-item.result c.loop-sequence-test.true c.sequence-item.is c.loop-sequence.invariant.neutral;
    }

pub returns : goal.returns
unfolding row_of
returns c = grind (arith, common_steps)
