use Rattle.bidi_base.proofs.Common.{◌∙◌, subst, IsUtf8, YieldsList-from_chars}
use Rattle.bidi_text.proofs.text.str_text.StrTextTextSource.chars.Goals as goal

pub returns : goal.returns
returns c = record {
  can_next = tt;
  finite = tt;
  items = (YieldsList-from_chars c.args.self.text.now (subst IsUtf8 c.as_str.ensures c.as_str.utf8) (c.chars.ensures.rest ∙ c.as_str.ensures)).runs;
}
