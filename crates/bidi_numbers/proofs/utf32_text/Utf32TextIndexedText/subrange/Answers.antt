use Rattle.bidi_base.proofs.Common.{◌≤◌, ◌-◌, length, drop, sym, ap, arith}
use Rattle.bidi_base.proofs.Lists.{list_all-take, list_all-drop}
use Rattle.bidi_text.proofs.CharsLemmas.{is_boundary-within, subrange-one_unit}
use Rattle.bidi_numbers.specs.Texts.{is_scalar}
use Rattle.bidi_numbers.proofs.utf32_text.Utf32TextIndexedText.subrange.Goals as goal

pub offset_bounds-numbers-range : goal.offset_bounds-numbers-range
offset_bounds-numbers-range c = grind (arith, is_boundary-within)

pub slice_bounds-new-end : goal.slice_bounds-new-end
slice_bounds-new-end c = grind (arith, is_boundary-within)

pub new-requires : goal.new-requires
new-requires c =
    rw c.numbers-numbers.ensures
    (list_all-take is_scalar (c.args.range.end - c.args.range.start) (drop c.args.range.start c.args.self.numbers.now)
    (list_all-drop is_scalar c.args.range.start c.args.self.numbers.now c.args.self.scalars))

pub returns : goal.returns
returns c =
    let within : c.args.range.end ≤ length c.args.self.numbers.now = is_boundary-within c.args.self.numbers.now c.args.range.end c.requires.ends in
    rw (c.new.ensures, c.numbers-numbers.ensures)
    (ap (λ cs. record { chars = cs }) (sym (subrange-one_unit c.args.self.numbers.now c.args.range.start c.args.range.end c.requires.ordered within)))
