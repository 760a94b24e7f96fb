use Rattle.bidi_base.proofs.Common.{append_assoc}
use Rattle.bidi_explain.proofs.page.push_links_start.Goals as goal

pub returns : goal.returns
returns c =
    simp (c.in_ok-push_str-4.ensures.bytes, c.in_ok-push_number-3.ensures, c.in_ok-push_str-3.ensures.bytes, c.in_ok-push_number-2.ensures, c.in_ok-push_str-2.ensures.bytes, c.in_ok-push_number.ensures, c.in_ok-push_str.ensures.bytes, append_assoc)
