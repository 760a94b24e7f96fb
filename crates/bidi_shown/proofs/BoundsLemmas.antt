-- Ranges of bytes that cut no character are lines of the text.
use Rattle.bidi_base.proofs.Common.{ℕ, ◌<◌, List, [], ◌∷◌, length, arith, chars, len_utf8, text_len, is_boundary}
use Rattle.bidi_base.proofs.Common.{IsUtf8, IsLine, Range, IsCharBoundary-start}
use Rattle.bidi_text.proofs.StrLemmas.{text_len-chars, is_boundary-from_str}
use Rattle.bidi_shown.specs.Bounds.{IsRangeOf}

pub IsLine-from : (bs : List ℕ) (r : Range ℕ) → IsUtf8 bs → IsRangeOf bs r → IsLine len_utf8 (chars bs) r.start r.end
IsLine-from bs r utf8 range = record {
  ordered = range.ordered;
  begins = grind (arith, is_boundary-from_str bs r.start utf8 range.start);
  ends = grind (arith, is_boundary-from_str bs r.end utf8 range.end);
}

-- the whole text
pub IsRangeOf-whole : (bs : List ℕ) → IsUtf8 bs → IsRangeOf bs (record { start = 0; end = length bs })
IsRangeOf-whole bs utf8 = record {
  start = IsCharBoundary-start bs utf8;
  end = (omega arith, λ inside _. absurd (omega (arith, inside)));
  ordered = omega arith;
}

-- a text that has bytes has characters
some-from_len : (cs : List ℕ) → 0 < text_len len_utf8 cs → 0 < length cs
some-from_len [] some = absurd (omega (arith, some))
some-from_len (c ∷ cs) some = omega arith

pub chars-some : (bs : List ℕ) → IsUtf8 bs → 0 < length bs → 0 < length (chars bs)
chars-some bs utf8 some = some-from_len (chars bs) (omega (arith, some, text_len-chars bs utf8))
