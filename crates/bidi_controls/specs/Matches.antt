-- Which direction controls of a line have no match on it (BD9, BD11). A line is taken as the list of its
-- characters' classes.
use Rattle.std.specs.Prelude.{ℕ, Bool, not, ◌&&◌, ◌||◌, if◌then◌else◌, List, is_none, Option}
use Rattle.std.specs.List.{list_any}
use Rattle.bidi_base.specs.declared.char_data.BidiClass.{BidiClass}
use Rattle.bidi_base.specs.Classes.{is_opener, is_pdi, is_pdf}
use Rattle.bidi_base.specs.Indexes.{between, class_at, holds_number}
use Rattle.bidi_base.specs.Isolates.{is_isolate_initiator_at, matching_pdi}
use Rattle.bidi_base.specs.Embeddings.{closing_pdf}

-- what closes something
abbrev pub is_closer : BidiClass → Bool
is_closer class = is_pdi class || is_pdf class

-- an embedding, an override, an isolate initiator, a PDF or a PDI
abbrev pub is_control : BidiClass → Bool
is_control class = is_opener class || is_closer class

-- the character that closes the opener q, if there is one: an isolate's matching PDI (BD9), and of an embedding
-- or an override the first later PDF at its own depth inside the same isolates (BD11)
abbrev pub closer_of : List BidiClass → ℕ → Option ℕ
closer_of classes q = if is_isolate_initiator_at classes q then matching_pdi classes q else closing_pdf classes q

-- p closes the opener q
abbrev pub is_closed_by : List BidiClass → ℕ → ℕ → Bool
is_closed_by classes p q = is_opener (class_at classes q) && holds_number (closer_of classes q) p

-- the character q opens something that nothing on the line closes
abbrev pub is_left_open : List BidiClass → ℕ → Bool
is_left_open classes q = is_opener (class_at classes q) && is_none (closer_of classes q)

-- the character p is a PDI or a PDF, and closes nothing
abbrev pub closes_nothing : List BidiClass → ℕ → Bool
closes_nothing classes p = is_closer (class_at classes p) && not (list_any (is_closed_by classes p) (between 0 p))

-- the character at this index is a control without its match
unfoldable pub is_unmatched : List BidiClass → ℕ → Bool
is_unmatched classes k = is_left_open classes k || closes_nothing classes k
