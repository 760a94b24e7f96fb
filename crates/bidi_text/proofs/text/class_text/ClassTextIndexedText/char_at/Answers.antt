use Rattle.bidi_base.proofs.Common.{arith, common_steps}
use Rattle.bidi_text.specs.ClassText.{class_chars}
use Rattle.bidi_text.proofs.CharsLemmas.{char_at-one_unit, char_at-past}
use Rattle.bidi_text.proofs.ClassLemmas.{length-class_chars, get_or-class_chars}
use Rattle.bidi_text.proofs.text.class_text.ClassTextIndexedText.char_at.Goals as goal

pub returns-in_err-class : goal.returns-in_err-class
returns-in_err-class c =
    let classes = c.args.self.now.classes.now in
    let codes = c.args.self.now.brackets.now in
    grind (arith, char_at-past (class_chars classes codes) c.args.index, length-class_chars classes codes)

pub returns : goal.returns
returns c =
    let classes = c.args.self.now.classes.now in
    let codes = c.args.self.now.brackets.now in
    grind (
      arith,
      common_steps,
      char_at-one_unit (class_chars classes codes) c.args.index,
      length-class_chars classes codes,
      get_or-class_chars classes codes c.args.index c.in_ok-class.field-0.now,
    )
