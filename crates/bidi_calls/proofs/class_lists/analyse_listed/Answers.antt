use Rattle.bidi_base.proofs.Common.{◌≡◌, ◌∙◌, length, length-map, sym, ap}
use Rattle.bidi_base.proofs.UnitIndexLemmas.{text_len-one_unit}
use Rattle.bidi_text.specs.ClassText.{class_chars, class_source}
use Rattle.bidi_calls.proofs.class_lists.analyse_listed.Goals as goal

pub returns-clause-fault : goal.returns-clause-fault
returns-clause-fault c =
    let chars = class_chars c.args.classes.now c.args.brackets.now in
    let classes = rw c.new-text.ensures.chars at c.new-text.ensures.classes in
    let count : length chars ≡ length c.args.classes.now = sym (length-map chars class_source.class_of) ∙ ap length classes in
    rw (c.new-text.ensures.chars, text_len-one_unit chars, count) at c.analyse_text.ensures.fault
