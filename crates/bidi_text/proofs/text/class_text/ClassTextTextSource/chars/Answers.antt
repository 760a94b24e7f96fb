use Rattle.bidi_base.proofs.GivesLemmas.{gives_first}
use Rattle.bidi_base.specs.Texts.{Text, one_each}
use Rattle.bidi_text.specs.ClassText.{class_chars}
use Rattle.bidi_text.proofs.IndexedLemmas.{chars_from-start}
use Rattle.bidi_text.proofs.text.class_text.ClassTextTextSource.chars.Goals as goal

pub returns : goal.returns
returns c =
    let text : Text one_each = record { chars = class_chars c.args.self.classes.now c.args.self.brackets.now } in
    gives_first _ _ c.new.result _ (rw (c.new.ensures.text, c.new.ensures.at) c.new.ensures.can_read)
    (rw (c.new.ensures.text, c.new.ensures.at) ((chars_from-start text)))
