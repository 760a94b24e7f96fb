use Rattle.bidi_base.proofs.Common.{append_assoc}
use Rattle.bidi_explain.proofs.page.push_lower.Goals as goal

pub returns : goal.returns
returns c =
    simp (c.in_ok-push_str-2.ensures.bytes, c.in_ok-push_shown_row.ensures, c.part-2.ensures, c.as_slice-2.ensures.value, c.in_ok-push_links_row.ensures, c.as_slice.ensures.value, c.part.ensures, c.in_ok-push_str.ensures.bytes, append_assoc)
