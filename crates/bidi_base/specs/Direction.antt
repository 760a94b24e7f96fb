-- Directions of levels and of texts.
use Rattle.std.specs.Prelude.{ℕ, Bool, true, false, not, if◌then◌else◌, List, [], ◌∷◌, find, is_some, Option, Some, option_and_then}
use Rattle.std.specs.List.{list_all, list_any}
use Rattle.bidi_base.specs.declared.char_data.BidiClass.{BidiClass}
use Rattle.bidi_base.specs.declared.char_data.BidiClass.TheVariants.{L, R, AL, AN, LRE, RLE, LRO, RLO, LRI, RLI, FSI}
use Rattle.bidi_base.specs.declared.char_data.Direction.{Direction}
use Rattle.bidi_base.specs.declared.char_data.Direction.TheVariants.{Ltr, Rtl, Mixed}
use Rattle.bidi_base.specs.Levels.{is_odd, is_even}
use Rattle.bidi_base.specs.Isolates.{deciding_class}
use Rattle.bidi_base.specs.Indexes.{first_or}

-- the direction that a deciding character gives
abbrev pub direction_by : Option BidiClass → Direction
direction_by (Some R) = Rtl
direction_by (Some AL) = Rtl
direction_by (Some L) = Ltr
direction_by _ = Mixed

-- the base direction of a text, by the classes of its paragraphs: that of the first one
unfoldable pub base_direction : List (List BidiClass) → Direction
base_direction paragraphs = direction_by (deciding_class (first_or [] paragraphs))

-- the base direction by the first paragraph that has a deciding character
unfoldable pub full_base_direction : List (List BidiClass) → Direction
full_base_direction paragraphs = direction_by (option_and_then deciding_class (find (λ p. is_some (deciding_class p)) paragraphs))

-- the direction of a list of levels: left to right if there are levels and all are even, right to left if none is even,
-- or else mixed
unfoldable pub direction_of_levels : List ℕ → Direction
direction_of_levels [] = Rtl
direction_of_levels (level ∷ levels) =
    if list_all is_even (level ∷ levels) then Ltr else if list_all is_odd (level ∷ levels) then Rtl else Mixed

-- the classes that can keep a paragraph of level 0 from being all left to right
abbrev pub may_turn : BidiClass → Bool
may_turn R = true
may_turn AL = true
may_turn AN = true
may_turn LRE = true
may_turn RLE = true
may_turn LRO = true
may_turn RLO = true
may_turn LRI = true
may_turn RLI = true
may_turn FSI = true
may_turn _ = false

-- no class is one of these
abbrev pub is_pure_ltr : List BidiClass → Bool
is_pure_ltr classes = not (list_any may_turn classes)
