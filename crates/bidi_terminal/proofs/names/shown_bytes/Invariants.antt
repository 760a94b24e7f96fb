use Rattle.bidi_base.proofs.Common.{◌≡◌, take, flat_map, string_bytes}
use Rattle.bidi_terminal.specs.Names.{shown_byte}
use Rattle.bidi_terminal.proofs.names.shown_bytes.Given as goal

abbrev pub invariant-loop-byte : goal.invariant-loop-byte
invariant-loop-byte l = string_bytes l.out ≡ flat_map shown_byte (take l.byte-index l.bytes)
