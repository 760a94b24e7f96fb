use Rattle.bidi_calls.proofs.AgreementText.{per_char-utf8}
use Rattle.bidi_calls.proofs.per_char.is_per_char_utf8.Goals as goal

pub returns : goal.returns
returns c =
    per_char-utf8 c.args.text.now c.as_bytes.result.now c.args.classes.now c.args.levels.now c.first_passing.result c.len-len.result c.utf8.text c.as_bytes.ensures.value
    c.requires.classes_same_len c.requires.levels_same_len c.requires.numbers c.len-len.ensures c.first_passing.ensures
