use Rattle.bidi_base.proofs.Common.{◌≡◌, ◌-◌, true, get_or, is_boundary, subst, sym, ap, arith}
use Rattle.bidi_display.specs.Shown.{clusters}
use Rattle.bidi_display.proofs.ShownPart.{cut-at_end}
use Rattle.bidi_display.proofs.displayed_line.DisplayedLine.shown_part.Goals as goal

pub returns-in_default-clause-is_line : goal.returns-in_default-clause-is_line
returns-in_default-clause-is_line c = λ width_of a level range shows.
    let line = c.args.self.now in
    let n = c.shown_length.result in
    let begins = subst (λ u. is_boundary a.len_of a.chars u ≡ true) (sym shows.start) shows.is_line.begins in
    cut-at_end a line.start line.end (clusters line) (n - 1) _ _ c.index-clusters-count.result line.whole begins shows.cut_no_char (omega arith) c.range-start.ensures.start
    (ap (λ ks. (get_or ks (n - 1) c.index-clusters-count.result).end) c.clusters.ensures)
