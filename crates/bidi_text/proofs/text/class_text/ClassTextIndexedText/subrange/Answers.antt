use Rattle.bidi_base.proofs.Common.{sym, ap, ◌∙◌, arith}
use Rattle.bidi_text.specs.ClassText.{class_chars}
use Rattle.bidi_text.proofs.CharsLemmas.{is_boundary-within, subrange-one_unit}
use Rattle.bidi_text.proofs.ClassLemmas.{length-class_chars, slice_range-class_chars}
use Rattle.bidi_text.proofs.text.class_text.ClassTextIndexedText.subrange.Goals as goal

pub slice_bounds-result-end : goal.slice_bounds-result-end
slice_bounds-result-end c =
    let chars = class_chars c.args.self.classes.now c.args.self.brackets.now in
    omega (arith, is_boundary-within chars c.args.range.end c.requires.ends, length-class_chars c.args.self.classes.now c.args.self.brackets.now)

pub returns : goal.returns
returns c =
    let classes = c.args.self.classes.now in
    let codes = c.args.self.brackets.now in
    let chars = class_chars classes codes in
    let start = c.args.range.start in
    let end = c.args.range.end in
    let whole = subrange-one_unit chars start end c.requires.ordered (is_boundary-within chars end c.requires.ends)
    ∙ slice_range-class_chars classes codes start end c.requires.ordered in
    rw (c.min.ensures, c.min-2.ensures) (ap (λ cs. record { chars = cs }) (sym whole))
