use Rattle.bidi_base.proofs.Common.{◌≤◌, length, sym, ap, arith}
use Rattle.bidi_text.proofs.CharsLemmas.{is_boundary-within, subrange-one_unit}
use Rattle.bidi_text.proofs.text.chars_text.CharsTextTextSource.subrange.Goals as goal

pub offset_bounds-list-range : goal.offset_bounds-list-range
offset_bounds-list-range c = grind (arith, is_boundary-within)

pub slice_bounds-new-end : goal.slice_bounds-new-end
slice_bounds-new-end c = grind (arith, is_boundary-within)

pub returns : goal.returns
returns c =
    let within : c.args.range.end ≤ length c.args.self.list.now = is_boundary-within c.args.self.list.now c.args.range.end c.requires.ends in
    rw (c.new.ensures, c.list-list.ensures) (ap (λ cs. record { chars = cs }) (sym (subrange-one_unit c.args.self.list.now c.args.range.start c.args.range.end c.requires.ordered within)))
