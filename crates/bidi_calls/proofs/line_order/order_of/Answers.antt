use Rattle.bidi_base.proofs.Common.{◌≡◌, ◌∙◌, ℕ, List, length, length-map, map, ap, sym}
use Rattle.bidi_base.proofs.UnitIndexLemmas.{text_len-one_unit}
use Rattle.bidi_numbers.specs.Numbers.{class_numbered}
use Rattle.bidi_text.specs.ClassText.{class_chars, class_source}
use Rattle.bidi_calls.proofs.AgreementText.{per_char-utf32}
use Rattle.bidi_calls.proofs.CallerLines.{length-own_classes, length-own_levels}
use Rattle.bidi_calls.specs.CallerLine.{own_classes, own_levels}
use Rattle.bidi_calls.proofs.line_order.order_of.Goals as goal

pub displayed_of-requires-clause-per_char : goal.displayed_of-requires-clause-per_char
displayed_of-requires-clause-per_char c =
    let l = c.args.line.now in
    let chars : List ℕ = class_chars c.new-text.result.classes.now c.new-text.result.brackets.now in
    let classes = c.as_slice.ensures.value ∙ c.in_ok-classes.ensures ∙ ap (λ (ns : List ℕ). map class_numbered ns) c.class_numbers.ensures in
    let count : length chars ≡ length (own_classes l) = sym (length-map chars class_source.class_of) ∙ ap length (c.new-text.ensures.classes ∙ classes) ∙ length-map (own_classes l) class_numbered in
    let of_classes = sym count ∙ sym (text_len-one_unit chars) in
    let of_levels = length-own_levels l c.requires ∙ sym (length-own_classes l c.requires) ∙ of_classes in
    sym (per_char-utf32 chars (own_classes l) (own_levels l) of_classes of_levels c.requires.classes)
