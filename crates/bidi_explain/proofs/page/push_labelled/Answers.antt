use Rattle.bidi_base.proofs.Common.{append_assoc}
use Rattle.bidi_explain.proofs.BlocksLemmas.{map-part}
use Rattle.bidi_explain.proofs.page.push_labelled.Goals as goal

pub returns : goal.returns
returns c =
    simp (c.in_ok-push_str-4.ensures.bytes, c.in_ok-push_cells.ensures, c.part.ensures, c.in_ok-push_str-3.ensures.bytes, c.in_ok-push_str-2.ensures.bytes, c.in_ok-push_str.ensures.bytes, map-part, append_assoc)
