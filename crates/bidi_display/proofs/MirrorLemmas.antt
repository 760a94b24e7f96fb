-- The mirrored partners by Unicode's data take at most twice the bytes of a character in UTF-8.
use Rattle.bidi_base.proofs.Common.{◌≡◌, ◌∙◌, ℕ, ◌*◌, ◌≤◌, Bool, true, not, nat_le, leb-true, Option, Some, None, IsTrue, length, length-encode, encode_utf8, len_utf8, unwrap_or, refl, ap, arith}
use Rattle.std.specs.Option.{IsSome}
use Rattle.ucd_table.proofs.Computing.{tables}
use Rattle.ucd_table.proofs.RangedFacts.{Stepped-at_points, at_points, points_ok}
use Rattle.ucd_bidi.specs.Binary.{is_bidi_mirrored}
use Rattle.ucd_bidi.proofs.BinaryLemmas.{is_bidi_mirrored_stepped}
use Rattle.bidi_unicode.specs.Unicode.{mirrored_of}

-- the partner takes at most twice the bytes of the character, if there is one
abbrev is_short : ℕ → Option ℕ → Bool
is_short c None = true
is_short c (Some partner) = nat_le (len_utf8 partner) (2 * len_utf8 c)

-- only mirrored characters have partners, so these are computed
all_short : at_points is_bidi_mirrored is_bidi_mirrored_stepped not (λ c _. is_short c (mirrored_of c)) ≡ true
unfolding tables is_bidi_mirrored_stepped points_ok
all_short = refl

-- the character that is displayed in place of another one
pub partner-short : (c d : ℕ) (partner : Option ℕ) → partner ≡ mirrored_of c → (IsSome partner → IsTrue (is_bidi_mirrored c)) → d ≡ unwrap_or partner c
    → length (encode_utf8 d) ≤ 2 * length (encode_utf8 c)
partner-short c d None e mirrored is = omega (arith, ap (λ (x : ℕ). length (encode_utf8 x)) is)
partner-short c d (Some p) e mirrored is =
    let short = Stepped-at_points is_bidi_mirrored is_bidi_mirrored_stepped not (λ x _. is_short x (mirrored_of x)) all_short c (ap not (mirrored refl)) in
    let at_most : len_utf8 p ≤ 2 * len_utf8 c = leb-true (len_utf8 p) (2 * len_utf8 c) (ap (is_short c) e ∙ short) in
    omega (arith, length-encode c, length-encode p, ap (λ (x : ℕ). length (encode_utf8 x)) is)
