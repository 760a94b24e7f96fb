-- The steps of the pass over code units that joins level runs into isolating run sequences.
use Rattle.std.specs.Prelude.{ℕ, ◌+◌, Bool, ◌||◌, ◌==◌, if◌then◌else◌, List, length, Option, Some, None}
use Rattle.std.specs.List.{fold}
use Rattle.bidi_base.specs.declared.char_data.BidiClass.{BidiClass}
use Rattle.bidi_base.specs.declared.char_data.BidiClass.TheVariants.{L}
use Rattle.bidi_base.specs.Classes.{is_isolate_initiator, is_pdi}
use Rattle.bidi_base.specs.Indexes.{between, class_at}
use Rattle.bidi_base.specs.Sequences.{RunSequence, level_at}
use Rattle.bidi_base.specs.SequencePass.{read_class}
use Rattle.bidi_base.specs.Text.{char_index, per_char}
use Rattle.bidi_base.specs.Units.{kept_in_runs}

-- level runs that were joined, as ranges of code units, and the classes at both ends
pub record JoinedRuns : Type 0 where
  pub runs : List (ℕ × ℕ)
  pub sos : BidiClass
  pub eos : BidiClass

-- the characters that X9 keeps in them
abbrev pub characters_of : (ℕ → ℕ) → List ℕ → List BidiClass → JoinedRuns → RunSequence
characters_of len_of chars classes j = record { places = kept_in_runs len_of chars classes j.runs; sos = j.sos; eos = j.eos }

-- a class that opens or closes an isolate
abbrev pub is_isolate_control : BidiClass → Bool
is_isolate_control c = is_isolate_initiator c || is_pdi c

-- what waits for the PDI of each open isolate after the characters from a up to b: if the one before `last` opens an
-- isolate, the sequence at s waits for its PDI
abbrev pub read_range : List BidiClass → ℕ → ℕ → ℕ → ℕ → List (Option ℕ) → List (Option ℕ)
read_range classes last s a b waits =
    fold (λ ws m. read_class (class_at classes m) (if m + 1 == last then Some s else None) ws) waits (between a b)

-- the same for the characters of a range of code units, if the one before `last` ends at `kept_end`
abbrev pub read_units : (ℕ → ℕ) → List ℕ → List BidiClass → ℕ → ℕ → ℕ → ℕ → List (Option ℕ) → List (Option ℕ)
read_units len_of chars classes kept_end s start end waits =
    read_range (per_char L len_of chars classes) (char_index len_of chars kept_end) s (char_index len_of chars start)
    (char_index len_of chars end) waits

-- the level after a run that ends at an index, by the class of the run's last kept character
abbrev pub level_after_run : ℕ → BidiClass → List ℕ → ℕ → ℕ
level_after_run para_level class levels end =
    if is_isolate_initiator class then para_level else (if end == length levels then para_level else level_at levels end)
