-- The openers that are open while a line is read, the innermost first (X6a, X7).
use Rattle.std.specs.Prelude.{ℕ, Bool, false, is_some, if◌then◌else◌, List, [], ◌∷◌, slice_set, Option, Some, None}
use Rattle.bidi_base.specs.declared.char_data.BidiClass.{BidiClass}
use Rattle.bidi_base.specs.declared.char_data.BidiClass.TheVariants.{PDF, PDI}
use Rattle.bidi_base.specs.Classes.{is_isolate_initiator, is_opener}
use Rattle.bidi_controls.specs.declared.openers.Opener.{Opener}

-- the index of the innermost isolate initiator
abbrev pub innermost_isolate : List Opener → Option ℕ
innermost_isolate [] = None
innermost_isolate (opener ∷ openers) = if opener.is_isolate then Some opener.place else innermost_isolate openers

-- what is outside it
abbrev pub outside_isolate : List Opener → List Opener
outside_isolate [] = []
outside_isolate (opener ∷ openers) = if opener.is_isolate then openers else outside_isolate openers

-- the index of the innermost opener, if that is an embedding or an override
abbrev pub innermost_embedding : List Opener → Option ℕ
innermost_embedding [] = None
innermost_embedding (opener ∷ openers) = if opener.is_isolate then None else Some opener.place

-- what is outside it
abbrev pub outside_embedding : List Opener → List Opener
outside_embedding [] = []
outside_embedding (opener ∷ openers) = if opener.is_isolate then opener ∷ openers else openers

-- the index of the opener that a character of this class closes
abbrev pub closed_place : BidiClass → List Opener → Option ℕ
closed_place PDI openers = innermost_isolate openers
closed_place PDF openers = innermost_embedding openers
closed_place _ openers = None

-- what it leaves open
abbrev pub left_open : BidiClass → List Opener → List Opener
left_open PDI openers = if is_some (innermost_isolate openers) then outside_isolate openers else openers
left_open PDF openers = outside_embedding openers
left_open _ openers = openers

-- what is open after it, if it is at this index
abbrev pub then_open : ℕ → BidiClass → List Opener → List Opener
then_open place class openers =
    if is_opener class then record { place = place; is_isolate = is_isolate_initiator class } ∷ openers else openers

-- whether each character read so far is a control without a match, after one more that closes what is at an index
abbrev pub with_closed : Option ℕ → List Bool → List Bool
with_closed None unmatched = unmatched
with_closed (Some place) unmatched = slice_set unmatched place false
