-- The openers that are open while a text is read, as the list of their classes, innermost first (X6a, X7).
use Rattle.std.specs.Prelude.{if◌then◌else◌, List, [], ◌∷◌}
use Rattle.std.specs.List.{list_any}
use Rattle.bidi_base.specs.declared.char_data.BidiClass.{BidiClass}
use Rattle.bidi_base.specs.declared.char_data.BidiClass.TheVariants.{PDF, PDI}
use Rattle.bidi_base.specs.Classes.{is_isolate_initiator, is_opener}

-- the openers outside the innermost isolate
abbrev pub outside_isolate : List BidiClass → List BidiClass
outside_isolate [] = []
outside_isolate (opener ∷ openers) = if is_isolate_initiator opener then openers else outside_isolate openers

-- the openers outside the innermost one, if that is an embedding initiator: a PDF closes no isolate
abbrev pub outside_embedding : List BidiClass → List BidiClass
outside_embedding [] = []
outside_embedding (opener ∷ openers) = if is_isolate_initiator opener then opener ∷ openers else openers

-- the openers that are open at a character of this class
abbrev pub left_open : BidiClass → List BidiClass → List BidiClass
left_open PDI openers = if list_any is_isolate_initiator openers then outside_isolate openers else openers
left_open PDF openers = outside_embedding openers
left_open _ openers = openers

-- the openers that are open after it
abbrev pub then_open : BidiClass → List BidiClass → List BidiClass
then_open c openers = if is_opener c then c ∷ openers else openers
