use Rattle.bidi_base.proofs.Common.{◌≡◌, ℕ, List, ◌++◌, length, reverse, arith, chars, encode_utf8_all, IsUtf8, nil_from_length, reverse-reverse, chars_from_encodes}
use Rattle.bidi_vectors_examples.proofs.callers.push_mirrored.Goals as goal

-- at the end all have come
all_taken : (text rest xs : List ℕ) → IsUtf8 text → rest ++ encode_utf8_all (reverse xs) ≡ text → length rest ≡ 0 → xs ≡ reverse (chars text)
all_taken text rest xs u h e = grind (arith, reverse-reverse, chars_from_encodes, nil_from_length)

pub returns : goal.returns
returns c = grind (arith, all_taken)
