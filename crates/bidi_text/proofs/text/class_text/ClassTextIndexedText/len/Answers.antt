use Rattle.bidi_base.proofs.Common.{sym, ◌∙◌}
use Rattle.bidi_base.proofs.UnitIndexLemmas.{text_len-one_unit}
use Rattle.bidi_text.specs.ClassText.{class_chars}
use Rattle.bidi_text.proofs.ClassLemmas.{length-class_chars}
use Rattle.bidi_text.proofs.text.class_text.ClassTextIndexedText.len.Goals as goal

pub returns : goal.returns
returns c =
    let classes = c.args.self.now.classes.now in
    let codes = c.args.self.now.brackets.now in
    sym (text_len-one_unit (class_chars classes codes) ∙ length-class_chars classes codes)
