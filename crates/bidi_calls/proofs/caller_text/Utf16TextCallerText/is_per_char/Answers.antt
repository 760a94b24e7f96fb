use Rattle.bidi_base.proofs.Common.{◌∙◌}
use Rattle.bidi_text.proofs.Utf16Lemmas.{text_len-utf16}
use Rattle.bidi_calls.proofs.caller_text.Utf16TextCallerText.is_per_char.Goals as goal

pub is_per_char_utf16-requires-clause-classes_same_len : goal.is_per_char_utf16-requires-clause-classes_same_len
is_per_char_utf16-requires-clause-classes_same_len c = rw c.units.ensures (c.requires.classes_same_len ∙ text_len-utf16 c.args.self.units.now)

pub is_per_char_utf16-requires-clause-levels_same_len : goal.is_per_char_utf16-requires-clause-levels_same_len
is_per_char_utf16-requires-clause-levels_same_len c = rw c.units.ensures (c.requires.levels_same_len ∙ text_len-utf16 c.args.self.units.now)
