-- Passes that read a paragraph from its start: the isolates that are open so far, and the effect of one more character.
use Rattle.std.specs.Prelude.{ℕ, ◌-◌, Bool, true, false, if◌then◌else◌, List, [], ◌∷◌, ◌++◌, take, drop, replicate, Option, Some, None}
use Rattle.std.specs.declared.ops.Range.{Range}
use Rattle.bidi_base.specs.declared.char_data.BidiClass.{BidiClass}
use Rattle.bidi_base.specs.declared.char_data.BidiClass.TheVariants.{FSI}
use Rattle.bidi_base.specs.Classes.{is_strong, is_isolate_initiator, is_pdi}
use Rattle.bidi_base.specs.Indexes.{class_at}
use Rattle.bidi_base.specs.Isolates.{resolved_fsi}

-- the innermost of the open isolates, which are listed outermost first
abbrev pub innermost : {X : Type 0} → List X → Option X
innermost [] = None
innermost (x ∷ []) = Some x
innermost (x ∷ y ∷ under) = innermost (y ∷ under)

-- all open isolates but the innermost one
abbrev pub outer : {X : Type 0} → List X → List X
outer [] = []
outer (x ∷ []) = []
outer (x ∷ y ∷ under) = x ∷ outer (y ∷ under)

-- the isolates that are open after a character: an initiator x opens one, and a PDI closes the innermost one
abbrev pub opened_by : {X : Type 0} → BidiClass → X → List X → List X
opened_by class x under = if is_isolate_initiator class then under ++ x ∷ [] else if is_pdi class then outer under else under

-- the class that decides, if none did before: a strong class of a character outside all isolates
abbrev pub decided_by : {X : Type 0} → BidiClass → List X → Option BidiClass
decided_by class [] = if is_strong class then Some class else None
decided_by class (x ∷ under) = None

abbrev pub is_fsi : BidiClass → Bool
is_fsi FSI = true
is_fsi _ = false

-- the list with x at each entry of a range
abbrev pub filled : {X : Type 0} → Range ℕ → X → List X → List X
filled range x xs = take range.start xs ++ (replicate (range.end - range.start) x ++ drop range.end xs)

-- the classes after a strong class directly inside the isolate that the initiator at this range opens: an FSI is
-- resolved, any other initiator stays
abbrev pub resolved_units : BidiClass → Range ℕ → List BidiClass → List BidiClass
resolved_units class range classes =
    if is_fsi (class_at classes range.start) then filled range (resolved_fsi (Some class)) classes else classes

-- the classes of the code units read so far, after a class directly inside the innermost open isolate
abbrev pub met_units : BidiClass → Option (Range ℕ) → List BidiClass → List BidiClass
met_units class None classes = classes
met_units class (Some range) classes = if is_strong class then resolved_units class range classes else classes
