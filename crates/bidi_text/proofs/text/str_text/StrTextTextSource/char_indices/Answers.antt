use Rattle.bidi_base.proofs.Common.{◌∙◌, subst, rules, IsUtf8}
use Rattle.bidi_text.proofs.StrLemmas.{char_indices_gives}
use Rattle.bidi_text.proofs.text.str_text.StrTextTextSource.char_indices.Goals as goal

pub returns : goal.returns
returns c = record {
  can_next = search rules;
  finite = tt;
  items = char_indices_gives c.char_indices.result c.args.self.text.now (subst IsUtf8 c.as_str.ensures c.as_str.utf8) (c.char_indices.ensures.rest ∙ c.as_str.ensures) c.char_indices.ensures.offset;
}
