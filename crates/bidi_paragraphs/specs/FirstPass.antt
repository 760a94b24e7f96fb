-- The state of the first pass over a text, and what one more character changes in it.
use Rattle.std.specs.Prelude.{◌≡◌, ℕ, ◌+◌, ◌-◌, ◌<◌, ◌≤◌, Bool, false, not, ◌&&◌, ◌||◌, ◌==◌, nat_lt, zero, suc, get_or, if◌then◌else◌, List, [], ◌∷◌, ◌++◌, take, drop, map, All, Option, Some, None, unwrap_or, length, IsTrue, MatchOption, replicate}
use Rattle.std.specs.Option.{is_some, is_none}
use Rattle.std.specs.declared.ops.Range.{Range}
use Rattle.bidi_base.specs.declared.char_data.BidiClass.{BidiClass}
use Rattle.bidi_base.specs.Classes.{is_strong, is_isolate_initiator, is_pdi, is_paragraph_separator}
use Rattle.bidi_base.specs.Isolates.{level_by, resolved_fsi}
use Rattle.bidi_base.specs.OpenIsolates.{innermost, outer, is_fsi, filled}
use Rattle.bidi_base.specs.Source.{Source}
use Rattle.bidi_base.specs.Text.{text_len, char_index, is_boundary, per_unit}
use Rattle.bidi_base.specs.Texts.{Encoding}
use Rattle.bidi_paragraphs.specs.ClassSet.{has, with}
use Rattle.bidi_paragraphs.specs.ParagraphFlags.{with_class, with_classes, flags_of}
use Rattle.bidi_paragraphs.specs.ParagraphInfo.{ranges_of, levels_of}
use Rattle.bidi_paragraphs.specs.declared.class_set.ClassSet.{ClassSet}
use Rattle.bidi_paragraphs.specs.declared.first_pass.stop.Stop.{Stop}
use Rattle.bidi_paragraphs.specs.declared.first_pass.progress.Progress.{Progress}
use Rattle.bidi_paragraphs.specs.declared.first_pass.paragraph_state.ParagraphState.{ParagraphState}
use Rattle.bidi_paragraphs.specs.declared.first_pass.paragraph_state.Undecided.{Undecided}
use Rattle.bidi_paragraphs.specs.declared.paragraph_flags.ParagraphFlags.{ParagraphFlags}
use Rattle.bidi_paragraphs.specs.declared.paragraph_info.ParagraphInfo.{ParagraphInfo}

-- the open isolate, if it is at this depth
abbrev pub at_depth : ℕ → Option Undecided → Option Undecided
at_depth depth None = None
at_depth depth (Some u) = if u.depth == depth then Some u else None

-- the innermost of `depth` open isolates, if it is of an FSI that no character has decided yet
abbrev pub waiting : ℕ → List Undecided → Option Undecided
waiting depth undecided = at_depth depth (innermost undecided)

-- the undecided isolates of a paragraph, without the innermost open isolate if that is one
abbrev pub without_waiting : ParagraphState → List Undecided
without_waiting r =
    if is_some (waiting r.depth r.undecided.items) then outer r.undecided.items else r.undecided.items

-- the code units of each FSI are a range up to `len`
abbrev pub AreWithin : ℕ → List Undecided → Type 0
AreWithin len undecided = All (λ u. (u.units.start ≤ u.units.end) × (u.units.end ≤ len)) undecided

-- the number of open isolates after one more character
abbrev pub depth_after : BidiClass → ℕ → ℕ
depth_after class depth = if is_isolate_initiator class then depth + 1 else (if is_pdi class then depth - 1 else depth)

-- the undecided isolates after one more character
abbrev pub undecided_after : BidiClass → Range ℕ → ℕ → List Undecided → List Undecided
undecided_after class range depth undecided =
    if is_isolate_initiator class
    then (if is_fsi class then undecided ++ record { units = range; depth = depth + 1 } ∷ [] else undecided)
    else (if (is_strong class || is_pdi class) && is_some (waiting depth undecided) then outer undecided else undecided)

-- the class that decides the paragraph level, after one more character
abbrev pub deciding_after : BidiClass → ℕ → Option BidiClass → Option BidiClass
deciding_after class depth deciding = if is_strong class && (depth == 0 && is_none deciding) then Some class else deciding

-- the classes of the code units before, after one more character: a strong character gives its direction to the FSI
-- that waits
abbrev pub classes_after : BidiClass → Option Undecided → List BidiClass → List BidiClass
classes_after class None classes = classes
classes_after class (Some u) classes = if is_strong class then filled u.units (resolved_fsi (Some class)) classes else classes

-- no character can decide anything before the next FSI: the level of the paragraph is decided, and so is the direction
-- of each open FSI
abbrev pub is_decided : ParagraphState → Bool
is_decided r = is_some r.deciding && (length r.undecided.items == 0)

-- a strong character would decide something if it came next
abbrev pub wants_strong : ParagraphState → Bool
wants_strong r = is_some (waiting r.depth r.undecided.items) || (r.depth == 0 && is_none r.deciding)

-- a character of this class would change more than the flags if it came next
abbrev pub stops_at : ParagraphState → BidiClass → Bool
stops_at r c =
    (is_paragraph_separator c || (is_fsi c || (is_isolate_initiator c && not (is_decided r))))
    || ((is_strong c && wants_strong r) || (is_pdi c && nat_lt 0 r.depth))

-- the paragraph with other flags
abbrev pub with_flags : ParagraphState → ParagraphFlags → ParagraphState
with_flags r flags = record { start = r.start; depth = r.depth; undecided = r.undecided; deciding = r.deciding; flags = flags }

-- the state at the start of a paragraph
pub record IsAtStart (r : ParagraphState) (start : ℕ) : Type 0 where
  pub here : r.start ≡ start
  pub depth : r.depth ≡ 0
  pub undecided : r.undecided.items ≡ []
  pub deciding : r.deciding ≡ None
  pub own_flags : r.flags ≡ flags_of []

-- one more character was read, with this class and these code units
pub record IsReadBy (class : BidiClass) (range : Range ℕ) (old new : ParagraphState) : Type 0 where
  pub start : new.start ≡ old.start
  pub depth : new.depth ≡ depth_after class old.depth
  pub undecided : new.undecided.items ≡ undecided_after class range old.depth old.undecided.items
  pub deciding : new.deciding ≡ deciding_after class old.depth old.deciding
  pub own_flags : new.flags ≡ with_class old.flags class

-- if the state is decided, the number of open isolates becomes 0
pub record StopsCounting (old new : ParagraphState) : Type 0 where
  pub start : new.start ≡ old.start
  pub depth : new.depth ≡ (if is_decided old then 0 else old.depth)
  pub undecided : new.undecided.items ≡ old.undecided.items
  pub deciding : new.deciding ≡ old.deciding
  pub own_flags : new.flags ≡ old.flags

-- the paragraph ends at the code unit `end`, and was appended to the lists
pub record IsClosed (base_level : Option ℕ) (r : ParagraphState) (end : ℕ) (old : List ParagraphInfo)
    (old_flags : List ParagraphFlags) (new : List ParagraphInfo) (new_flags : List ParagraphFlags) : Type 0 where
  pub ranges : ranges_of new ≡ ranges_of old ++ (r.start, end) ∷ []
  pub levels : levels_of new ≡ levels_of old ++ unwrap_or base_level (level_by r.deciding) ∷ []
  pub flags : new_flags ≡ old_flags ++ r.flags ∷ []

-- a character's class was written to each of its code units, from `start` on, and the classes before them are unchanged
abbrev pub IsPut : Encoding → ℕ → BidiClass → ℕ → List BidiClass → List BidiClass → Type 0
IsPut encoding c class start old new =
    take (start + encoding.len_of c) new ≡ take start old ++ replicate (encoding.len_of c) class

-- the characters from a boundary on
abbrev pub ahead : (ℕ → ℕ) → List ℕ → ℕ → List ℕ
ahead len_of chars u = drop (char_index len_of chars u) chars

-- no class of these characters is a stop class
abbrev pub HaveNoStopClass : Source → (BidiClass → Bool) → List ℕ → Type 0
HaveNoStopClass source stop_classes cs = All (λ c. stop_classes (source.class_of c) ≡ false) cs

-- these characters were read, from one code unit up to another: their classes were written, and the classes before them
-- are unchanged
pub record AreWritten (source : Source) (len_of : ℕ → ℕ) (read : List ℕ) (from to : ℕ) (old new : List BidiClass) : Type 0 where
  pub long : to ≡ from + text_len len_of read
  pub classes : take to new ≡ take from old ++ per_unit len_of read (map source.class_of read)

-- the first of the coming characters were read, and they change only the flags
pub record IsSkimmed (source : Source) (len_of : ℕ → ℕ) (stop_classes : BidiClass → Bool) (coming : List ℕ) (from to : ℕ)
    (old new : List BidiClass) (was is : ParagraphFlags) : Type 0 where
  pub read : List ℕ
  pub rest : List ℕ
  pub joined : coming ≡ read ++ rest
  pub idle : HaveNoStopClass source stop_classes read
  pub written : AreWritten source len_of read from to old new
  pub own_flags : is ≡ with_classes was (map source.class_of read)

-- they were read up to a stop: a character that may change more
pub record IsStop (source : Source) (len_of : ℕ → ℕ) (stop_classes : BidiClass → Bool) (coming : List ℕ) (from : ℕ) (stop : Stop)
    (old new : List BidiClass) (was is : ParagraphFlags) : Type 0 where
  pub read : List ℕ
  pub rest : List ℕ
  pub joined : coming ≡ read ++ stop.c ∷ rest
  pub idle : HaveNoStopClass source stop_classes read
  pub begins : stop.start ≡ from + text_len len_of read
  pub long : stop.len ≡ len_of stop.c
  pub class : stop.class ≡ source.class_of stop.c
  pub written : AreWritten source len_of (read ++ stop.c ∷ []) from (stop.start + len_of stop.c) old new
  pub own_flags : is ≡ with_classes was (map source.class_of read)

-- what a reader of a text requires of the index from which it reads, and of the classes that it writes to
pub record CanRead (len_of : ℕ → ℕ) (chars : List ℕ) (from : ℕ) (classes : List BidiClass) : Type 0 where
  pub sized : length classes ≡ text_len len_of chars
  pub begins : IsTrue (is_boundary len_of chars from)

-- a set has each class that would change the flags
abbrev pub HasEachChange : ClassSet → ParagraphFlags → Type 0
HasEachChange sought flags = (c : BidiClass) → has sought c ≡ false → with_class flags c ≡ flags

-- what a reader that stops at the classes of a set requires: also, the set has each class that would change the flags
pub record CanSeek (len_of : ℕ → ℕ) (chars : List ℕ) (stop_set : ClassSet) (from : Progress) (classes : List BidiClass) : Type 0 where
  pub place : CanRead len_of chars from.at classes
  pub sought : HasEachChange stop_set from.flags

-- what a reader leaves: it has read up to a stop, which it returns, or else up to an index
abbrev pub IsReadOn : Source → (ℕ → ℕ) → List ℕ → (BidiClass → Bool) → Progress → Option Stop → Progress → List BidiClass → List BidiClass → Type 0
IsReadOn source len_of chars stop_classes from result to old new =
    MatchOption result (IsSkimmed source len_of stop_classes (ahead len_of chars from.at) from.at to.at old new from.flags to.flags)
    (λ stop. IsStop source len_of stop_classes (ahead len_of chars from.at) from.at stop old new from.flags to.flags)

-- if there is no stop and a code unit was left, at least one was read
abbrev pub GoesOn : ℕ → Option Stop → Progress → Progress → Type 0
GoesOn len result from to = result ≡ None → from.at < len → from.at < to.at

-- what a reader of some characters leaves: it has read on, and if it returns no stop and a code unit was left, it has
-- read at least one
pub record HasReadSome (source : Source) (len_of : ℕ → ℕ) (chars : List ℕ) (stop_classes : BidiClass → Bool)
    (from : Progress) (result : Option Stop) (to : Progress) (old new : List BidiClass) : Type 0 where
  pub stop : IsReadOn source len_of chars stop_classes from result to old new
  pub passed : GoesOn (length new) result from to

-- the set of the classes of the first k of some characters
abbrev pub set_of_first : Source → List ℕ → ℕ → ClassSet
set_of_first source block zero = record { bits = 0 }
set_of_first source block (suc k) = with (set_of_first source block k) (source.class_of (get_or block k 0))
