use Rattle.bidi_base.proofs.Common.{◌≡◌, ℕ, List, [], ◌∷◌, reverse, flat_map, sym, ap, ◌∙◌, arith, slice_range, map-id, one_unit, subrange}
use Rattle.std.proofs.lemmas.List.Concat.{flat_map_single}
use Rattle.bidi_text.proofs.CharsLemmas.{is_boundary-within, subrange-one_unit}
use Rattle.bidi_lines.proofs.line_text.chars.CharsTextLineText.reverse_run.Goals as goal

each_one : (cs : List ℕ) → flat_map (λ c. c ∷ []) cs ≡ cs
each_one cs = flat_map_single (λ c. c) cs ∙ map-id cs

pub offset_bounds-list-run : goal.offset_bounds-list-run
offset_bounds-list-run c = grind (arith, is_boundary-within)

pub slice_bounds-write_reversed-end : goal.slice_bounds-write_reversed-end
slice_bounds-write_reversed-end c = grind (arith, is_boundary-within)

pub returns : goal.returns
returns c =
    let list = c.args.self.list.now in
    let within = is_boundary-within list c.args.run.end c.requires.is_line.ends in
    let run = subrange-one_unit list c.args.run.start c.args.run.end c.requires.is_line.ordered within in
    c.write_reversed.ensures ∙ ap (λ cs. reverse (slice_range cs c.args.run.start c.args.run.end)) c.list-list.ensures ∙ ap reverse (sym run) ∙ sym (each_one (reverse (subrange one_unit list c.args.run.start c.args.run.end)))
