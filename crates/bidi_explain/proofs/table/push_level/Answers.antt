use Rattle.bidi_base.proofs.Common.{append_assoc}
use Rattle.bidi_explain.proofs.table.push_level.Goals as goal

pub returns : goal.returns
returns c = simp (c.in_ok-push_str-2.ensures.bytes, c.in_ok-push_number.ensures, c.in_ok-push_str.ensures.bytes, append_assoc)
