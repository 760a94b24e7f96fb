-- The base direction of a text in one walk, which counts the isolates that are open.
use Rattle.bidi_base.proofs.Common.{◌≡◌, ◌↔◌, ℕ, Bool, true, false, ◌&&◌, cond, if◌then◌else◌, List, [], ◌∷◌, map, find, Option, Some, None, is_some, refl, ap, ◌∙◌, inl}
use Rattle.bidi_base.proofs.Common.{inr, arith, onto_first, option_or, cases_Bool, is_strong, is_paragraph_separator, direction_by, base_direction, deciding_class}
use Rattle.bidi_base.proofs.Common.{paragraph_level, paragraphs_of, each_separator, first_or, Source, option_and_then, full_base_direction}
use Rattle.bidi_base.specs.ClassParagraphs.{class_paragraphs}
use Rattle.bidi_base.specs.declared.char_data.BidiClass.{BidiClass}
use Rattle.bidi_base.specs.declared.char_data.Direction.{Direction}
use Rattle.bidi_base.specs.declared.char_data.Direction.TheVariants.{Rtl, Mixed}
use Rattle.bidi_laws.proofs.IsolatesLemmas.{direction_by-Rtl}
use Rattle.bidi_laws.proofs.IsolateWalk.{kind_of, depth_by, is_zero, deciding_from, deciding_class-from}
use Rattle.bidi_base.proofs.Lists.{cases_Option}

-- the direction that is found where d isolates are open, and no character has decided
abbrev pub direction_from : Bool → ℕ → List BidiClass → Direction
direction_from full d [] = Mixed
direction_from full d (c ∷ cs) =
    cond (is_strong c && is_zero d) (direction_by (Some c))
    (cond (is_paragraph_separator c) (cond full (direction_from full 0 cs) Mixed) (direction_from full (depth_by (kind_of c) d) cs))

-- ---- pieces of a list of classes

first_piece : List BidiClass → List BidiClass
first_piece [] = []
first_piece (c ∷ cs) = c ∷ cond (is_paragraph_separator c) [] (first_piece cs)

-- the pieces from the next separator on
other_pieces : List BidiClass → List (List BidiClass)
other_pieces [] = []
other_pieces (c ∷ cs) = cond (is_paragraph_separator c) (class_paragraphs cs) (other_pieces cs)

class_paragraphs-first : (c : BidiClass) (cs : List BidiClass) → class_paragraphs (c ∷ cs) ≡ first_piece (c ∷ cs) ∷ other_pieces (c ∷ cs)
unfolding first_piece other_pieces
class_paragraphs-first c [] = elim (cases_Bool (is_paragraph_separator c)) [ inl ends ↦ rw ends refl | inr on ↦ rw on refl ]
class_paragraphs-first c (d ∷ cs) = elim (cases_Bool (is_paragraph_separator c)) [ inl ends ↦ rw ends refl | inr on ↦ rw on (ap (onto_first c) (class_paragraphs-first d cs)) ]

-- ---- the first paragraph

first_direction : (d : ℕ) (cs : List BidiClass) → direction_by (deciding_from d (first_piece cs)) ≡ direction_from false d cs
unfolding first_piece
first_direction d [] = refl
first_direction d (c ∷ cs) = elim (cases_Bool (is_strong c && is_zero d)) [
  | inl decides ↦ simp decides
  | inr on ↦ elim (cases_Bool (is_paragraph_separator c)) [ inl ends ↦ simp (on, ends) | inr more ↦ simp (on, more) (first_direction (depth_by (kind_of c) d) cs) ]
]

first_or-pieces : (cs : List BidiClass) → first_or [] (class_paragraphs cs) ≡ first_piece cs
unfolding first_piece
first_or-pieces [] = refl
first_or-pieces (c ∷ cs) = ap (first_or []) (class_paragraphs-first c cs)

-- ---- any paragraph

-- what decides first, where the current paragraph has not decided yet
found_in : List (List BidiClass) → Option BidiClass
found_in ps = option_and_then deciding_class (find (λ p. is_some (deciding_class p)) ps)

found_in-cons : (p : List BidiClass) (ps : List (List BidiClass)) → found_in (p ∷ ps) ≡ option_or (deciding_class p) (found_in ps)
unfolding found_in
found_in-cons p ps = elim (cases_Option (deciding_class p)) [ inl e ↦ rw e refl | inr c ↦ rw c.1 c.1 ]

found_from : (cs : List BidiClass) → found_in (class_paragraphs cs) ≡ option_or (deciding_from 0 (first_piece cs)) (found_in (other_pieces cs))
unfolding first_piece other_pieces found_in
found_from [] = refl
found_from (c ∷ cs) =
    let first = first_piece (c ∷ cs) in
    let others = other_pieces (c ∷ cs) in
    ap found_in (class_paragraphs-first c cs) ∙ found_in-cons first others ∙ ap (λ o. option_or o (found_in others)) (deciding_class-from first)

full_direction : (d : ℕ) (cs : List BidiClass) → direction_by (option_or (deciding_from d (first_piece cs)) (found_in (other_pieces cs))) ≡ direction_from true d cs
unfolding first_piece other_pieces found_in
full_direction d [] = refl
full_direction d (c ∷ cs) = elim (cases_Bool (is_strong c && is_zero d)) [
  | inl decides ↦ simp decides
  | inr on ↦ elim (cases_Bool (is_paragraph_separator c)) [
    | inl ends ↦ simp (on, ends, found_from cs) (full_direction 0 cs)
    | inr more ↦ simp (on, more) (full_direction (depth_by (kind_of c) d) cs)
  ]
]

-- ---- what the walk answers

pub direction_from-classes : (full : Bool) (cs : List BidiClass)
    → direction_from full 0 cs ≡ (if full then full_base_direction (class_paragraphs cs) else base_direction (class_paragraphs cs))
unfolding base_direction full_base_direction found_in
direction_from-classes full cs = grind (arith, full_direction, found_from, first_direction, deciding_class-from, first_or-pieces)

class_paragraphs-map : (source : Source) (chars : List ℕ) → map (map source.class_of) (paragraphs_of (each_separator source) chars) ≡ class_paragraphs (map source.class_of chars)
class_paragraphs-map source [] = refl
class_paragraphs-map source (c ∷ cs) = grind (arith, class_paragraphs-map source cs)

pub direction_from-is : (source : Source) (chars : List ℕ) (full : Bool)
    → direction_from full 0 (map source.class_of chars) ≡ (if full then full_base_direction (map (map source.class_of) (paragraphs_of (each_separator source) chars)) else base_direction (map (map source.class_of) (paragraphs_of (each_separator source) chars)))
direction_from-is source chars full = rw (class_paragraphs-map source chars) (direction_from-classes full (map source.class_of chars))

-- the base direction is right to left exactly if the first paragraph's own level is 1
pub base_direction-Rtl : (paragraphs : List (List BidiClass)) → (base_direction paragraphs ≡ Rtl) ↔ (paragraph_level None (first_or [] paragraphs) ≡ 1)
unfolding base_direction paragraph_level
base_direction-Rtl paragraphs = direction_by-Rtl (deciding_class (first_or [] paragraphs))
