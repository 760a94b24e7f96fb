use Rattle.bidi_plain.proofs.ExplicitPass.{IsExplicitSoFar}
use Rattle.bidi_plain.proofs.plain.embeddings.explicit_levels.Given as goal

abbrev pub invariant-loop-class : goal.invariant-loop-class
invariant-loop-class l = IsExplicitSoFar l.para_level l.classes l.class-index l.openers l.levels.items l.overridden.items
