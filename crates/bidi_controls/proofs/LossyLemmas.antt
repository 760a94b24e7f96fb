-- What bytes decode to, piece by piece.
use Rattle.bidi_base.proofs.Common.{◌≡◌, ℕ, zero, suc, ◌<◌, ◌≤◌, true, List, [], ◌∷◌, ◌++◌, Option, None, Some, length, get_or, drop, map, refl, sym, ap, ◌∙◌, arith, All, All-nil, All-cons}
use Rattle.bidi_base.proofs.Common.{All-head, All-tail, length-drop, map-append, chars, nat_tests, byte_from_char}
use Rattle.std.proofs.lemmas.Str.{chars-encodes}
use Rattle.bstr.specs.Utf8.{decoded, good, or_replacement, pieces, lossy_chars}
use Rattle.bstr.proofs.lemmas.PieceLemmas.{value-1, piece-bounds, pieces-append, lossy_chars-step, lossy_chars-nil}
use Rattle.bstr.proofs.lemmas.LossyLemmas.{lossy_chars-utf8_lossy}
use Rattle.bstr.proofs.lemmas.SoundLemmas.{SpellsChar-decoded}
use lib.Utf8.{scalar, scalars}
use Rattle.bidi_controls.specs.Decoded.{utf8_decoded}

-- the first character of some bytes
abbrev pub first_char : List ℕ → ℕ
first_char bytes = or_replacement (decoded bytes).char

-- what holds of the first character of bytes of a kind, whose ends are of this kind too, holds of each
module _ (P : ℕ → Type 0) (Kind : List ℕ → Type 0) (here : (bytes : List ℕ) → Kind bytes → 0 < length bytes → P (first_char bytes))
    (later : (bytes : List ℕ) (k : ℕ) → Kind bytes → Kind (drop k bytes)) where
  each_within : (limit : ℕ) (bytes : List ℕ) → length bytes ≤ limit → Kind bytes → All P (lossy_chars bytes)
  each_within limit [] fits h = rw lossy_chars-nil (All-nil P)
  each_within zero (b ∷ bytes) fits h = absurd (omega arith)
  each_within (suc limit) (b ∷ bytes) fits h =
      let all = b ∷ bytes in
      let some : 0 < length all = omega arith in
      let size = (decoded all).size in
      let shorter : length (drop size all) ≤ limit = omega (arith, length-drop size all, (piece-bounds all some).0) in
      rw (lossy_chars-step all some) (All-cons P (first_char all) (lossy_chars (drop size all)) (here all h some) (each_within limit (drop size all) shorter (later all size h)))

  pub each_char : (bytes : List ℕ) → Kind bytes → All P (lossy_chars bytes)
  each_char bytes h = each_within (length bytes) bytes (omega arith) h

replaced-scalar : (char : Option ℕ) → ((c : ℕ) → char ≡ Some c → scalar c ≡ true) → scalar (or_replacement char) ≡ true
replaced-scalar None h = refl
replaced-scalar (Some c) h = h c refl

first_char-scalar : (bytes : List ℕ) → scalar (first_char bytes) ≡ true
first_char-scalar bytes = replaced-scalar (decoded bytes).char (λ c is. (SpellsChar-decoded bytes c is).scalar)

scalars-from : (cs : List ℕ) → All (λ c. scalar c ≡ true) cs → scalars cs ≡ true
scalars-from [] h = refl
scalars-from (c ∷ cs) h = grind (arith, All-head (λ d. scalar d ≡ true) c cs h, scalars-from cs (All-tail (λ d. scalar d ≡ true) c cs h))

-- the text that `String::from_utf8_lossy` makes has these characters
pub utf8_decoded-pieces : (bytes : List ℕ) → utf8_decoded bytes ≡ lossy_chars bytes
utf8_decoded-pieces bytes =
    ap chars (sym (lossy_chars-utf8_lossy bytes))
    ∙ chars-encodes (lossy_chars bytes) (scalars-from (lossy_chars bytes) (each_char (λ c. scalar c ≡ true) (λ bs. Unit {0}) (λ bs h some. first_char-scalar bs) (λ bs k h. tt) bytes tt))

-- ---- ASCII

replaced-low : (bytes : List ℕ) (char : Option ℕ) → (decoded bytes).char ≡ char → or_replacement char < 128 → or_replacement char ≡ get_or bytes 0 0
replaced-low bytes None is low = absurd (omega arith)
replaced-low bytes (Some c) is low = sym (byte_from_char bytes (drop (decoded bytes).size bytes) c (SpellsChar-decoded bytes c is).bytes low)

-- an ASCII character is its byte
pub first_char-low : (bytes : List ℕ) → first_char bytes < 128 → first_char bytes ≡ get_or bytes 0 0
first_char-low bytes low = replaced-low bytes (decoded bytes).char refl low

decoded-low : (a : ℕ) (bytes : List ℕ) → a < 128 → decoded (a ∷ bytes) ≡ good a 1
decoded-low a bytes low = let l = a ∷ bytes in value-1 (length l) a (get_or l 1 0) (get_or l 2 0) (get_or l 3 0) (omega arith, low)

-- an ASCII byte is its character
pub first_char-byte : (b : ℕ) (bytes : List ℕ) → b < 128 → first_char (b ∷ bytes) ≡ b
first_char-byte b bytes low = ap (λ p. or_replacement p.char) (decoded-low b bytes low)

lossy_chars-low : (a : ℕ) (bytes : List ℕ) → a < 128 → lossy_chars (a ∷ bytes) ≡ a ∷ lossy_chars bytes
lossy_chars-low a bytes low = rw (lossy_chars-step (a ∷ bytes) (omega arith), decoded-low a bytes low) refl

-- so bytes can be cut in front of one, and after it
pub utf8_decoded-at : (before : List ℕ) (a : ℕ) (after : List ℕ) → a < 128 → utf8_decoded (before ++ a ∷ after) ≡ utf8_decoded before ++ a ∷ utf8_decoded after
utf8_decoded-at before a after low =
    simp utf8_decoded-pieces
    (ap (map (λ p. or_replacement p.char)) (pieces-append (length before) before (a ∷ after) (omega arith) (λ some. grind (arith, nat_tests)))
    ∙ map-append (λ p. or_replacement p.char) (pieces before) (pieces (a ∷ after))
    ∙ ap (λ t. lossy_chars before ++ t) (lossy_chars-low a after low))

pub utf8_decoded-nil : utf8_decoded [] ≡ []
utf8_decoded-nil = utf8_decoded-pieces [] ∙ lossy_chars-nil

pub utf8_decoded-first : (b : ℕ) (bytes : List ℕ) → utf8_decoded (b ∷ bytes) ≡ first_char (b ∷ bytes) ∷ utf8_decoded (drop (decoded (b ∷ bytes)).size (b ∷ bytes))
utf8_decoded-first b bytes = simp utf8_decoded-pieces (lossy_chars-step (b ∷ bytes) (omega arith))
