use Rattle.bidi_base.proofs.Common.{append_assoc}
use Rattle.bidi_explain.proofs.page.push_shown_row.Goals as goal

pub returns : goal.returns
returns c = simp append_assoc at (rw (c.in_ok-push_boxes.ensures, c.in_ok-push_str.ensures.bytes) at c.in_ok-push_str-2.ensures.bytes)
