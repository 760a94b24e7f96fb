use Rattle.bidi_text.proofs.ClassLemmas.{classes_back, brackets_back}
use Rattle.bidi_text.proofs.text.class_text.ClassText.new.Goals as goal

pub returns-clause-classes : goal.returns-clause-classes
returns-clause-classes c = classes_back c.args.classes.now c.args.brackets.now c.requires.codes

pub returns-clause-brackets : goal.returns-clause-brackets
returns-clause-brackets c = brackets_back c.args.classes.now c.args.brackets.now c.requires.codes
