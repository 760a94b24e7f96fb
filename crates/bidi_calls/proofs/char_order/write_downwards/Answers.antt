use Rattle.bidi_base.proofs.Common.{arith, get_or-set_same, get_or-set_other, get_or-reverse, length-reverse, same_number_lists}
use Rattle.bidi_lines.proofs.Pieces.{length-between, get_or-between}
use Rattle.bidi_calls.proofs.char_order.write_downwards.Goals as goal

pub loop-k-preserved : goal.loop-k-preserved
loop-k-preserved c j below = grind (arith, get_or-set_same, get_or-set_other, c.loop-k.invariant j)

pub returns : goal.returns
returns c = same_number_lists _ _ (grind (arith, length-between, length-reverse)) (λ j inside. grind (arith, c.loop-k.invariant j, get_or-reverse, length-between, get_or-between))
