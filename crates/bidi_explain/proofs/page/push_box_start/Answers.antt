use Rattle.bidi_base.proofs.Common.{append_assoc}
use Rattle.bidi_explain.proofs.page.push_box_start.Goals as goal

pub returns : goal.returns
returns c =
    simp (c.in_ok-push_str-3.ensures.bytes, c.in_ok-push_number-2.ensures, c.from.ensures, c.number.ensures.number, c.in_ok-push_str-2.ensures.bytes, c.level_attribute.ensures, c.in_ok-push_number.ensures, c.in_ok-push_str.ensures.bytes, append_assoc)
