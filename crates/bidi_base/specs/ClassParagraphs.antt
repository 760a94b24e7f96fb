-- The paragraphs of a text (P1), by the classes of its characters.
use Rattle.std.specs.Prelude.{if◌then◌else◌, List, [], ◌∷◌}
use Rattle.std.specs.List.{onto_first}
use Rattle.bidi_base.specs.Classes.{is_paragraph_separator}
use Rattle.bidi_base.specs.declared.char_data.BidiClass.{BidiClass}

abbrev pub class_paragraphs : List BidiClass → List (List BidiClass)
class_paragraphs [] = []
class_paragraphs (c ∷ cs) =
    if is_paragraph_separator c then (c ∷ []) ∷ class_paragraphs cs else onto_first c (class_paragraphs cs)
