use Rattle.bidi_base.proofs.Common.{◌≡◌, ℕ, List, ◌++◌, length, reverse, flat_map, take, arith, common_steps, chars, encode_utf8_all, IsUtf8, nil_from_length, reverse-reverse, chars_from_encodes}
use Rattle.bidi_base.proofs.Common.{length-append, take_all, encode_utf8}
use Rattle.bidi_lines.proofs.WrittenRuns.{written_part}
use Rattle.bidi_lines.proofs.line_text.utf8.write_chars_reversed.Goals as goal

-- at the end all have come
all_taken : (text rest xs : List ℕ) → IsUtf8 text → rest ++ encode_utf8_all (reverse xs) ≡ text → length rest ≡ 0 → xs ≡ reverse (chars text)
all_taken text rest xs u h e = grind (arith, reverse-reverse, chars_from_encodes, nil_from_length)

-- and their bytes are the whole text
all_written : (text rest xs out : List ℕ) (at : ℕ) → IsUtf8 text → rest ++ encode_utf8_all (reverse xs) ≡ text → length rest ≡ 0
    → at ≡ length (encode_utf8_all (reverse xs)) → length out ≡ length text → take at out ≡ flat_map encode_utf8 xs → out ≡ flat_map encode_utf8 (reverse (chars text))
all_written text rest xs out at u h e so_far same written = grind (arith, all_taken, length-append, take_all)

pub loop-c-preserved : goal.loop-c-preserved
loop-c-preserved c =
    record {
      rest = grind (arith, common_steps);
      so_far = grind (arith, common_steps);
      written = grind (arith, common_steps, written_part);
    }

pub returns : goal.returns
returns c = grind (arith, all_written)
