use Rattle.bidi_base.proofs.Common.{◌∙◌, ◌-◌, ap, length, slice_get}
use Rattle.bidi_display.proofs.EdgesLemmas.{line_width-last}
use Rattle.bidi_display.proofs.displayed_line.DisplayedLine.width.Goals as goal

pub returns : goal.returns
returns c =
    let s = c.args.self.now in
    c.unwrap_or.ensures
    ∙ line_width-last s.lists.clusters.items s.lists.right_edges.items s.edges c.copied.result (c.copied.ensures ∙ c.last.ensures.value ∙ ap (λ xs. slice_get xs (length xs - 1)) c.deref.ensures.value)
