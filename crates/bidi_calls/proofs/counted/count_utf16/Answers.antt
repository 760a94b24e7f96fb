use Rattle.bidi_base.proofs.Common.{sym, ◌∙◌}
use Rattle.bidi_text.proofs.Utf16Lemmas.{text_len-utf16}
use Rattle.bidi_calls.proofs.CountLemmas.{count-plain}
use Rattle.bidi_calls.proofs.counted.count_utf16.Goals as goal

pub returns-then-are_characters : goal.returns-then-are_characters
returns-then-are_characters c = sym (count-plain c.args.units.now (sym c.are_characters.ensures ∙ c.if-are_characters.true))

pub count_one_by_one-requires : goal.count_one_by_one-requires
count_one_by_one-requires c = rw c.new.ensures (sym (text_len-utf16 c.args.units.now))
