-- The search for a base direction (P2, P3) in a text, or in its pieces one after another.
use Rattle.std.specs.Prelude.{◌≡◌, ℕ, Bool, if◌then◌else◌, List, ◌++◌, replicate}
use Rattle.bidi_base.specs.ClassParagraphs.{class_paragraphs}
use Rattle.bidi_base.specs.Direction.{base_direction, full_base_direction}
use Rattle.bidi_base.specs.declared.char_data.BidiClass.{BidiClass}
use Rattle.bidi_base.specs.declared.char_data.BidiClass.TheVariants.{LRI}
use Rattle.bidi_base.specs.declared.char_data.Direction.{Direction}
use Rattle.bidi_base.specs.declared.char_data.Direction.TheVariants.{Mixed}
use Rattle.unicode_bidi.specs.declared.direction_search.DirectionSearch.{DirectionSearch}
use Rattle.unicode_bidi.specs.declared.direction_search.DirectionSearch.TheVariants.{Found, Open}

-- the base direction of characters that follow `depth` open isolates: that of a text with as many isolate initiators
-- before them
abbrev pub direction_after : Bool → ℕ → List BidiClass → Direction
direction_after full depth classes =
    let paragraphs = class_paragraphs (replicate depth LRI ++ classes) in
    if full then full_base_direction paragraphs else base_direction paragraphs

-- the base direction that a state of the search leads to, if characters of these classes follow
abbrev pub direction_with : Bool → DirectionSearch → List BidiClass → Direction
direction_with full (Found direction) more = direction
direction_with full (Open depth) more = direction_after full depth more

-- the search is in this state after characters of these classes, which follow `depth` open isolates: whatever comes
-- next, the state leads to the base direction of the whole
abbrev pub IsSearched : Bool → ℕ → List BidiClass → DirectionSearch → Type 0
IsSearched full depth classes search =
    (more : List BidiClass) → direction_after full depth (classes ++ more) ≡ direction_with full search more

-- the direction that a search has found, or mixed while the search goes on
abbrev pub direction_found : DirectionSearch → Direction
direction_found (Found direction) = direction
direction_found (Open depth) = Mixed
