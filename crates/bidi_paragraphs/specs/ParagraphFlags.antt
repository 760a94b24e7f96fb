-- The classes of a paragraph that later steps need to know.
use Rattle.std.specs.Prelude.{ℕ, ◌+◌, ◌-◌, ◌^◌, Bool, true, false, not, ◌&&◌, if◌then◌else◌, List, [], ◌∷◌, map}
use Rattle.bidi_base.specs.declared.char_data.BidiClass.{BidiClass}
use Rattle.bidi_base.specs.declared.char_data.BidiClass.TheVariants.{ES, ET, CS, NSM, B, S, WS, ON, PDI}
use Rattle.bidi_base.specs.Classes.{class_count, class_number}
use Rattle.bidi_base.specs.Source.{Source}
use Rattle.bidi_paragraphs.specs.ClassSet.{has, with, both, either}
use Rattle.bidi_paragraphs.specs.declared.class_set.ClassSet.{ClassSet}
use Rattle.bidi_paragraphs.specs.declared.paragraph_flags.ParagraphFlags.{ParagraphFlags}

-- the classes that later steps tell apart
abbrev pub is_counted : BidiClass → Bool
is_counted ES = false
is_counted ET = false
is_counted CS = false
is_counted NSM = false
is_counted S = false
is_counted WS = false
is_counted ON = false
is_counted B = false
is_counted PDI = false
is_counted _ = true

-- a counted class that is not in the flags
abbrev pub is_missing : ParagraphFlags → BidiClass → Bool
is_missing flags c = is_counted c && not (has flags.seen c)

-- the set of the counted classes
abbrev pub counted_set : ClassSet
counted_set =
    let others = 2 ^ class_number ES + 2 ^ class_number ET + 2 ^ class_number CS + 2 ^ class_number NSM + 2 ^ class_number S + 2 ^ class_number WS + 2 ^ class_number ON + 2 ^ class_number B + 2 ^ class_number PDI in
    record { bits = 2 ^ class_count - 1 - others }

-- the flags with those of some more characters, given by the set of their classes
abbrev pub with_set : ParagraphFlags → ClassSet → ParagraphFlags
with_set flags classes = record { seen = either flags.seen (both classes counted_set) }

-- the flags with those of one more character
abbrev pub with_class : ParagraphFlags → BidiClass → ParagraphFlags
with_class flags c = if is_counted c then record { seen = with flags.seen c } else flags

abbrev pub with_classes : ParagraphFlags → List BidiClass → ParagraphFlags
with_classes flags [] = flags
with_classes flags (c ∷ classes) = with_classes (with_class flags c) classes

-- the flags of a paragraph: the counted ones of its source classes
abbrev pub flags_of : List BidiClass → ParagraphFlags
flags_of classes = with_classes (record { seen = record { bits = 0 } }) classes

-- the flags of the paragraphs of a text, given by their characters
unfoldable pub paragraph_flags : Source → List (List ℕ) → List ParagraphFlags
paragraph_flags source pieces = map (λ piece. flags_of (map source.class_of piece)) pieces
