use Rattle.bidi_paragraphs.proofs.ClassSets.{without_has}
use Rattle.bidi_paragraphs.proofs.class_set.ClassSet.without.Goals as goal

pub returns : goal.returns
returns c = without_has c.args.self c.args.other
