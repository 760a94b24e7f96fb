-- Laws of the levels of a text.
use Rattle.std.specs.Prelude.{◌≡◌, ℕ, ◌≤◌, true, List, ◌∷◌, ◌++◌, length, map, replicate, Option, All, slice_range}
use Rattle.bidi_base.specs.declared.char_data.BidiClass.TheVariants.{BN}
use Rattle.bidi_base.specs.Direction.{is_pure_ltr}
use Rattle.bidi_base.specs.Isolates.{paragraph_level}
use Rattle.bidi_base.specs.Source.{Source}
use Rattle.bidi_base.specs.Stored.{stored_levels}
use Rattle.bidi_base.specs.Text.{subrange, per_unit}

-- the code units of a range have the values that its characters would have as the whole text
abbrev pub HasOwnUnits : {X : Type 0} → (ℕ → ℕ) → (List ℕ → List X) → List ℕ → List X → ℕ × ℕ → Type 0
HasOwnUnits len_of values_of chars units r =
    let piece = subrange len_of chars r.0 r.1 in
    slice_range units r.0 r.1 ≡ per_unit len_of piece (values_of piece)

-- the levels are at least this one and at most 126
abbrev pub AreLevelsFrom : ℕ → List ℕ → Type 0
AreLevelsFrom para_level levels = All (λ level. (para_level ≤ level) × (level ≤ 126)) levels

-- another character of class BN in place of one of class BN changes no level
abbrev pub BoundaryNeutralsAreAlike : Source → Option ℕ → Type 0
BoundaryNeutralsAreAlike source base_level =
    (front back : List ℕ) (c d : ℕ) → source.class_of c ≡ BN → source.class_of d ≡ BN
    → stored_levels source base_level (front ++ c ∷ back) ≡ stored_levels source base_level (front ++ d ∷ back)

-- if a paragraph has level 0 and no class that `may_turn`, all its levels are 0
abbrev pub StaysLeftToRight : Source → Option ℕ → Type 0
StaysLeftToRight source base_level =
    (piece : List ℕ) → is_pure_ltr (map source.class_of piece) ≡ true
    → paragraph_level base_level (map source.class_of piece) ≡ 0
    → stored_levels source base_level piece ≡ replicate (length piece) 0
