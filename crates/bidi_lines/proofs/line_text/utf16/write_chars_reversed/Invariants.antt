use Rattle.bidi_base.proofs.Common.{◌≡◌, ◌++◌, take, flat_map, reverse, rev_source, text_len, utf16_text, utf16_len, encode_utf16}
use Rattle.bidi_lines.proofs.line_text.utf16.write_chars_reversed.Given as goal

abbrev pub invariant-loop-c : goal.invariant-loop-c
invariant-loop-c l = record {
  rest : utf16_text (rev_source l.c-iterator).rest.now ++ reverse l.yielded ≡ utf16_text l.fn.units;
  so_far : l.at ≡ text_len utf16_len (reverse l.yielded);
  written : take l.at l.out ≡ flat_map encode_utf16 l.yielded;
}
