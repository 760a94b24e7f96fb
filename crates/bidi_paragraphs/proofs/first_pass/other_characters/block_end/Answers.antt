use Rattle.bidi_base.proofs.Common.{◌<◌, arith}
use Rattle.bidi_paragraphs.proofs.Skimmed.{is_boundary-end, inside-lt}
use Rattle.bidi_paragraphs.proofs.first_pass.other_characters.block_end.Given.{Over}
use Rattle.bidi_paragraphs.proofs.first_pass.other_characters.block_end.Goals as goal
use Rattle.bidi_paragraphs.proofs.first_pass.other_characters.block_end.Goals.{In-loop-text}

pub returns-then-len-from-le-BLOCK-clause-boundary : goal.returns-then-len-from-le-BLOCK-clause-boundary
returns-then-len-from-le-BLOCK-clause-boundary g c = grind (arith, is_boundary-end)

-- the text goes on after what is no boundary
goes_on : (g : Over) (c : In-loop-text g) → c.loop-text.end < c.len-len.result
goes_on g c = grind (arith, inside-lt)

pub overflow_add-end-in-loop-text : goal.overflow_add-end-in-loop-text
overflow_add-end-in-loop-text g c = omega (arith, goes_on g c)

pub loop-text-smaller : goal.loop-text-smaller
loop-text-smaller g c = omega (arith, goes_on g c)

pub loop-text-preserved : goal.loop-text-preserved
loop-text-preserved g c = (omega (arith, c.loop-text.invariant.0), omega (arith, goes_on g c))
