-- The direction controls and marks, and what they are called.
use Rattle.std.specs.Prelude.{ℕ, Bool, ◌==◌, if◌then◌else◌, List, Option, Some, None, is_some, codes}
use Rattle.bidi_base.specs.declared.char_data.BidiClass.{BidiClass}
use Rattle.bidi_base.specs.declared.char_data.BidiClass.TheVariants.{LRE, LRO, RLE, RLO, PDF, LRI, RLI, FSI, PDI}
use Rattle.bidi_base.specs.Source.{Source}
use Rattle.bidi_controls.specs.declared.control.Control.{Control}
use Rattle.bidi_controls.specs.declared.control.Control.TheVariants.{LeftToRightEmbedding, RightToLeftEmbedding, PopDirectionalFormatting, LeftToRightOverride, RightToLeftOverride, LeftToRightIsolate, RightToLeftIsolate, FirstStrongIsolate, PopDirectionalIsolate, LeftToRightMark, RightToLeftMark, ArabicLetterMark}

-- the mark that a character is
abbrev pub mark_of : ℕ → Option Control
mark_of c =
    if c == 0x200E then Some LeftToRightMark
    else if c == 0x200F then Some RightToLeftMark
    else if c == 0x061C then Some ArabicLetterMark
    else None

-- the control or the mark that a character of this class is
abbrev pub control_of : BidiClass → ℕ → Option Control
control_of LRE c = Some LeftToRightEmbedding
control_of RLE c = Some RightToLeftEmbedding
control_of PDF c = Some PopDirectionalFormatting
control_of LRO c = Some LeftToRightOverride
control_of RLO c = Some RightToLeftOverride
control_of LRI c = Some LeftToRightIsolate
control_of RLI c = Some RightToLeftIsolate
control_of FSI c = Some FirstStrongIsolate
control_of PDI c = Some PopDirectionalIsolate
control_of _ c = mark_of c

-- a character is a direction control or a mark
abbrev pub is_control_or_mark : Source → ℕ → Bool
is_control_or_mark source c = is_some (control_of (source.class_of c) c)

-- its code point and its name
abbrev pub control_name : Control → List ℕ
control_name LeftToRightEmbedding = codes "U+202A LEFT-TO-RIGHT EMBEDDING"
control_name RightToLeftEmbedding = codes "U+202B RIGHT-TO-LEFT EMBEDDING"
control_name PopDirectionalFormatting = codes "U+202C POP DIRECTIONAL FORMATTING"
control_name LeftToRightOverride = codes "U+202D LEFT-TO-RIGHT OVERRIDE"
control_name RightToLeftOverride = codes "U+202E RIGHT-TO-LEFT OVERRIDE"
control_name LeftToRightIsolate = codes "U+2066 LEFT-TO-RIGHT ISOLATE"
control_name RightToLeftIsolate = codes "U+2067 RIGHT-TO-LEFT ISOLATE"
control_name FirstStrongIsolate = codes "U+2068 FIRST STRONG ISOLATE"
control_name PopDirectionalIsolate = codes "U+2069 POP DIRECTIONAL ISOLATE"
control_name LeftToRightMark = codes "U+200E LEFT-TO-RIGHT MARK"
control_name RightToLeftMark = codes "U+200F RIGHT-TO-LEFT MARK"
control_name ArabicLetterMark = codes "U+061C ARABIC LETTER MARK"

-- its short name
abbrev pub control_short : Control → List ℕ
control_short LeftToRightEmbedding = codes "LRE"
control_short RightToLeftEmbedding = codes "RLE"
control_short PopDirectionalFormatting = codes "PDF"
control_short LeftToRightOverride = codes "LRO"
control_short RightToLeftOverride = codes "RLO"
control_short LeftToRightIsolate = codes "LRI"
control_short RightToLeftIsolate = codes "RLI"
control_short FirstStrongIsolate = codes "FSI"
control_short PopDirectionalIsolate = codes "PDI"
control_short LeftToRightMark = codes "LRM"
control_short RightToLeftMark = codes "RLM"
control_short ArabicLetterMark = codes "ALM"
