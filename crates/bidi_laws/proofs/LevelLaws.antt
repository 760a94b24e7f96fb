-- The levels of a paragraph: how many they are, where they lie, and that one character of class BN is as good as
-- another.
use Rattle.bidi_base.proofs.Common.{◌≡◌, ℕ, ◌≤◌, List, [], ◌∷◌, length, map, Option, refl, append-nil, arith, All, IfSome, length-map, All-nil, All-head, All-tail, All-append, paragraph_level}
use Rattle.bidi_base.proofs.Common.{stored_classes, AreLevelsFrom, Source, stored_levels, text_classes, text_levels, paragraph_levels, per_unit, replicate}
use Rattle.bidi_base.specs.declared.char_data.BidiClass.{BidiClass}
use Rattle.std.proofs.lemmas.List.Elements.{All-replicate}
use Rattle.bidi_base.specs.Laws.{BoundaryNeutralsAreAlike, StaysLeftToRight}
use Rattle.bidi_laws.proofs.KeepsToLemmas.{levels_in-pure_ltr}
use Rattle.bidi_laws.proofs.ParagraphsLemmas.{joined}
use Rattle.bidi_laws.proofs.PieceUnits.{length-values}
use Rattle.bidi_laws.proofs.ResolvedLemmas.{length-levels_in, levels_in-IsStoredIn, stored_levels-BN}

-- ---- the paragraph level

-- it is one that an embedding can have
pub paragraph_level-few : (base_level : Option ℕ) (classes : List BidiClass) → IfSome base_level (λ level. level ≤ 125) → paragraph_level base_level classes ≤ 125
unfolding paragraph_level
paragraph_level-few base_level classes h = grind arith

-- ---- the levels of its characters

pub length-stored_levels : (source : Source) (base_level : Option ℕ) (piece : List ℕ) → length (stored_levels source base_level piece) ≡ length piece
unfolding stored_levels
length-stored_levels source base_level piece = grind (arith, length-levels_in, length-map)

pub stored_levels-AreLevelsFrom : (source : Source) (base_level : Option ℕ) (piece : List ℕ) → IfSome base_level (λ level. level ≤ 125)
    → AreLevelsFrom (paragraph_level base_level (map source.class_of piece)) (stored_levels source base_level piece)
unfolding stored_levels
stored_levels-AreLevelsFrom source base_level piece few k d within = grind (arith, levels_in-IsStoredIn, paragraph_level-few)

-- a text has one of them for each character
pub length-text_levels : (source : Source) (base_level : Option ℕ) (pieces : List (List ℕ)) (chars : List ℕ) → joined pieces ≡ chars → length (text_levels source base_level pieces) ≡ length chars
unfolding text_levels
length-text_levels source base_level pieces chars whole = grind (arith, length-values, length-stored_levels)

pub BoundaryNeutralsAreAlike-all : (source : Source) (base_level : Option ℕ) → BoundaryNeutralsAreAlike source base_level
BoundaryNeutralsAreAlike-all source base_level = stored_levels-BN source base_level

pub StaysLeftToRight-all : (source : Source) (base_level : Option ℕ) → StaysLeftToRight source base_level
unfolding stored_levels
StaysLeftToRight-all source base_level piece pure even = grind (arith, levels_in-pure_ltr, length-map)

-- ---- a text of one paragraph

pub text_classes-one : (source : Source) (piece : List ℕ) → text_classes source (piece ∷ []) ≡ stored_classes (map source.class_of piece)
unfolding text_classes
text_classes-one source piece = append-nil (stored_classes (map source.class_of piece))

pub text_levels-one : (source : Source) (base_level : Option ℕ) (piece : List ℕ) → text_levels source base_level (piece ∷ []) ≡ stored_levels source base_level piece
unfolding text_levels
text_levels-one source base_level piece = append-nil (stored_levels source base_level piece)

pub paragraph_levels-one : (source : Source) (base_level : Option ℕ) (piece : List ℕ) → paragraph_levels source base_level (piece ∷ []) ≡ paragraph_level base_level (map source.class_of piece) ∷ []
unfolding paragraph_levels
paragraph_levels-one source base_level piece = refl

-- ---- and of its units

-- what is so of each value is so at each unit
pub All-per_unit : {X : Type 0} (P : X → Type 0) (len_of : ℕ → ℕ) (chars : List ℕ) (values : List X) → All P values → All P (per_unit len_of chars values)
All-per_unit P len_of [] values h = All-nil P
All-per_unit P len_of (c ∷ chars) [] h = All-nil P
All-per_unit P len_of (c ∷ chars) (v ∷ values) h =
    All-append P (replicate (len_of c) v) (per_unit len_of chars values) (All-replicate P (len_of c) v (All-head P v values h)) (All-per_unit P len_of chars values (All-tail P v values h))
