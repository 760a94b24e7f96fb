use Rattle.bidi_numbers.proofs.texts.utf8.Goals as goal

-- `is_utf8` returned true, which it does only for UTF-8
pub from_utf8_unchecked-requires : goal.from_utf8_unchecked-requires
from_utf8_unchecked-requires c = c.is_utf8.ensures.0 c.if-not-is_utf8.false
