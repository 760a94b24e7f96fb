use Rattle.std.proofs.Common.{sym, ◌∙◌}
use Rattle.std.specs.Cmp.Lexicographic.{same_text}
use Rattle.std.proofs.lemmas.Bool.{and_parts}
use Rattle.bidi_vectors_code.proofs.equality.are_equal.Goals as goal

pub returns : goal.returns
returns c = λ equal. same_text _ _ (sym (and_parts _ _ (and_parts _ _ (sym c.eq.ensures ∙ equal)).0).0)
