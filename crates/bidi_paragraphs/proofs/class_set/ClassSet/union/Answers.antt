use Rattle.bidi_paragraphs.proofs.ClassSets.{union_has}
use Rattle.bidi_paragraphs.proofs.class_set.ClassSet.union.Goals as goal

pub returns-clause-has : goal.returns-clause-has
returns-clause-has c = union_has c.args.self c.args.other
