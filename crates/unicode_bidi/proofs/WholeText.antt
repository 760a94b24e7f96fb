-- A whole text as a line, and lists that are written whole.
use Rattle.bidi_base.proofs.Common.{◌≡◌, ℕ, ◌++◌, arith, List, [], length, take, append-nil, take-append_seam, text_len, IsLine}
use Rattle.bidi_base.proofs.TextLemmas.{is_boundary-append}

pub whole-IsLine : (len_of : ℕ → ℕ) (chars : List ℕ) (n : ℕ) → n ≡ text_len len_of chars → IsLine len_of chars 0 n
whole-IsLine len_of chars n e = grind (arith, append-nil, is_boundary-append len_of chars [], is_boundary-append len_of [] chars)

-- what was written over a whole list is its front
pub written-front : {X : Type 0} (n : ℕ) (new rest : List X) → length new ≡ n → take n (new ++ rest) ≡ new
written-front n new rest e = rw (← e) (take-append_seam new rest)
