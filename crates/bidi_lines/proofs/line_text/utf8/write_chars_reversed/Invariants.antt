use Rattle.bidi_base.proofs.Common.{◌≡◌, ◌++◌, length, take, flat_map, reverse, rev_source, chars_rest, encode_utf8}
use Rattle.std.specs.Prelude.{encode_utf8_all}
use Rattle.bidi_lines.proofs.line_text.utf8.write_chars_reversed.Given as goal

abbrev pub invariant-loop-c : goal.invariant-loop-c
invariant-loop-c l = record {
  rest : chars_rest (rev_source l.c-iterator) ++ encode_utf8_all (reverse l.yielded) ≡ l.fn.text;
  so_far : l.at ≡ length (encode_utf8_all (reverse l.yielded));
  written : take l.at l.out ≡ flat_map encode_utf8 l.yielded;
}
