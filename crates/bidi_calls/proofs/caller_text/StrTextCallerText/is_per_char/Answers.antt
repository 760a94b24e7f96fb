use Rattle.bidi_base.proofs.Common.{◌∙◌}
use Rattle.bidi_text.proofs.StrLemmas.{text_len-chars}
use Rattle.bidi_calls.proofs.caller_text.StrTextCallerText.is_per_char.Goals as goal

pub is_per_char_utf8-requires-clause-classes_same_len : goal.is_per_char_utf8-requires-clause-classes_same_len
is_per_char_utf8-requires-clause-classes_same_len c = rw (← c.as_str.ensures) at c.requires.classes_same_len ∙ text_len-chars c.as_str.result.now c.as_str.utf8

pub is_per_char_utf8-requires-clause-levels_same_len : goal.is_per_char_utf8-requires-clause-levels_same_len
is_per_char_utf8-requires-clause-levels_same_len c = rw (← c.as_str.ensures) at c.requires.levels_same_len ∙ text_len-chars c.as_str.result.now c.as_str.utf8
