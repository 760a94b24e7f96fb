use Rattle.std.proofs.lemmas.List.Sorted.{IsPermutation-put_mid}
use Rattle.bidi_lines.proofs.visual_order.flip.Goals as goal

pub returns-clause-permutation : goal.returns-clause-permutation
returns-clause-permutation c = IsPermutation-put_mid _ _ _ _ c.reverse.ensures.permutation
