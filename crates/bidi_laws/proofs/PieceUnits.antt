-- One value for each code unit of a text that is cut into pieces: the range of each piece has the piece's own values.
use Rattle.bidi_base.proofs.Common.{◌≡◌, ℕ, ◌+◌, List, [], ◌∷◌, ◌++◌, length, refl, append_assoc, arith, length-append, common_steps, All, All-nil, All-cons, sum_by-append, HasOwnUnits}
use Rattle.bidi_base.proofs.Common.{ranges_from, text_len, per_unit, flat_map}
use Rattle.bidi_laws.proofs.ParagraphsLemmas.{joined}
use Rattle.bidi_base.proofs.PerUnit.{length-per_unit, per_unit-append}
use Rattle.bidi_base.proofs.TextLemmas.{HasUnits, subrange-middle}

-- the values that a piece gives its characters
module _ {X : Type 0} (values_of : List ℕ → List X) (one_each : (piece : List ℕ) → length (values_of piece) ≡ length piece) where
  pub length-values : (pieces : List (List ℕ)) → length (flat_map values_of pieces) ≡ length (joined pieces)
  length-values [] = refl
  length-values (p ∷ pieces) = omega (arith, length-append (values_of p) (flat_map values_of pieces), length-append p (joined pieces), length-values pieces, one_each p)

  module _ (len_of : ℕ → ℕ) where
    -- the units of the text are those of the pieces, one after another
    pub per_unit-pieces : (pieces : List (List ℕ)) → per_unit len_of (joined pieces) (flat_map values_of pieces) ≡ flat_map (λ piece. per_unit len_of piece (values_of piece)) pieces
    per_unit-pieces [] = refl
    per_unit-pieces (p ∷ pieces) = grind (arith, per_unit-append, per_unit-pieces pieces)

    length-own : (piece : List ℕ) → length (per_unit len_of piece (values_of piece)) ≡ text_len len_of piece
    length-own piece = length-per_unit len_of piece (values_of piece) (one_each piece)

    module _ (units : HasUnits len_of) where
      -- a piece in the middle
      HasOwnUnits-middle : (front piece back : List ℕ) (before after : List X) → length before ≡ text_len len_of front
          → HasOwnUnits len_of values_of (front ++ (piece ++ back)) (before ++ (per_unit len_of piece (values_of piece) ++ after)) (text_len len_of front, text_len len_of front + text_len len_of piece)
      HasOwnUnits-middle front piece back before after long = grind (arith, common_steps, length-own, subrange-middle)

      -- each range has its own values, where other pieces may stand before
      HasOwnUnits-from : (front : List ℕ) (before : List X) (pieces : List (List ℕ)) → length before ≡ text_len len_of front
          → All (HasOwnUnits len_of values_of (front ++ joined pieces) (before ++ flat_map (λ piece. per_unit len_of piece (values_of piece)) pieces)) (ranges_from len_of (text_len len_of front) pieces)
      HasOwnUnits-from front before [] long = All-nil (HasOwnUnits len_of values_of (front ++ []) (before ++ []))
      HasOwnUnits-from front before (p ∷ pieces) long =
          let own : List X = per_unit len_of p (values_of p) in
          let others : List X = flat_map (λ piece. per_unit len_of piece (values_of piece)) pieces in
          let sum : text_len len_of (front ++ p) ≡ text_len len_of front + text_len len_of p = sum_by-append len_of front p in
          let rest = HasOwnUnits-from (front ++ p) (before ++ own) pieces (omega (arith, length-append before own, length-own p, long, sum)) in
          All-cons (HasOwnUnits len_of values_of (front ++ (p ++ joined pieces)) (before ++ (own ++ others))) _ _
          (HasOwnUnits-middle front p (joined pieces) before others long) (rw (sum, append_assoc before own others, append_assoc front p (joined pieces)) at rest)

      -- each range of the pieces of a text has its own values
      pub HasOwnUnits-pieces : (chars : List ℕ) (pieces : List (List ℕ)) → joined pieces ≡ chars
          → All (HasOwnUnits len_of values_of chars (per_unit len_of chars (flat_map values_of pieces))) (ranges_from len_of 0 pieces)
      HasOwnUnits-pieces chars pieces whole = grind (arith, per_unit-pieces pieces, HasOwnUnits-from [] [] pieces)
