use Rattle.bidi_base.proofs.Common.{append_assoc}
use Rattle.bidi_explain.proofs.page.push_box.Goals as goal

pub returns : goal.returns
returns c = simp (c.in_ok-push_str.ensures.bytes, c.in_ok-push_escaped.ensures.text, c.in_ok-push_box_start.ensures, append_assoc)
