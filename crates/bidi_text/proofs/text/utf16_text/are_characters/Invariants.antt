use Rattle.bidi_base.proofs.Common.{◌≡◌, nat_le, take, list_all, is_character}
use Rattle.bidi_text.proofs.text.utf16_text.are_characters.Given as goal

-- the least distance so far tells whether each unit is a character
abbrev pub invariant-loop-unit : goal.invariant-loop-unit
invariant-loop-unit l = nat_le 0x800 l.least ≡ list_all is_character (take l.unit-index l.units)
