use Rattle.bidi_base.proofs.Common.{◌≡◌, ℕ, List, [], ◌∷◌, reverse, flat_map, sym, ap, ◌∙◌, arith, slice_range, map-id, one_unit, subrange}
use Rattle.std.proofs.lemmas.List.Concat.{flat_map_single}
use Rattle.bidi_text.proofs.CharsLemmas.{is_boundary-within, subrange-one_unit}
use Rattle.bidi_numbers.proofs.utf32_text.Utf32TextLineText.reverse_run.Goals as goal

each_one : (cs : List ℕ) → flat_map (λ c. c ∷ []) cs ≡ cs
each_one cs = flat_map_single (λ c. c) cs ∙ map-id cs

pub offset_bounds-numbers-run : goal.offset_bounds-numbers-run
offset_bounds-numbers-run c = grind (arith, is_boundary-within)

pub slice_bounds-copy_from_slice-end : goal.slice_bounds-copy_from_slice-end
slice_bounds-copy_from_slice-end c = grind (arith, is_boundary-within)

pub returns : goal.returns
returns c =
    let numbers = c.args.self.numbers.now in
    let within = is_boundary-within numbers c.args.run.end c.requires.is_line.ends in
    let run = subrange-one_unit numbers c.args.run.start c.args.run.end c.requires.is_line.ordered within in
    c.reverse.ensures.after ∙ ap reverse c.copy_from_slice.ensures.after ∙ ap (λ cs. reverse (slice_range cs c.args.run.start c.args.run.end)) c.numbers-numbers.ensures
    ∙ ap reverse (sym run) ∙ sym (each_one (reverse (subrange one_unit numbers c.args.run.start c.args.run.end)))
