use Rattle.bidi_calls.proofs.AgreementText.{per_char-utf32}
use Rattle.bidi_calls.proofs.caller_text.Utf32TextCallerText.is_per_char.Goals as goal

pub returns : goal.returns
returns c =
    per_char-utf32 c.args.self.numbers.now c.args._classes.now c.args._levels.now c.requires.classes_same_len c.requires.levels_same_len c.requires.numbers
