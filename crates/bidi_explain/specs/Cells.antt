-- The cells of a character in the rows of the stages.
use Rattle.std.specs.Prelude.{ℕ, Bool, true, false, if◌then◌else◌, List, [], ◌∷◌, ◌++◌, codes, encode_utf8, Option, Some, None}
use Rattle.bidi_base.specs.declared.char_data.BidiClass.{BidiClass}
use Rattle.bidi_base.specs.declared.char_data.BidiClass.TheVariants.{L, R, AL, EN, ES, ET, AN, CS, NSM, BN, B, S, WS, ON, LRE, LRO, RLE, RLO, PDF, LRI, RLI, FSI, PDI}
use Rattle.bidi_base.specs.Classes.{is_nsm}
use Rattle.bidi_controls.specs.Controls.{control_of, control_short}
use Rattle.bidi_controls.specs.declared.control.Control.{Control}

-- the name of a class
abbrev pub class_name : BidiClass → List ℕ
class_name L = codes "L"
class_name R = codes "R"
class_name AL = codes "AL"
class_name EN = codes "EN"
class_name ES = codes "ES"
class_name ET = codes "ET"
class_name AN = codes "AN"
class_name CS = codes "CS"
class_name NSM = codes "NSM"
class_name BN = codes "BN"
class_name B = codes "B"
class_name S = codes "S"
class_name WS = codes "WS"
class_name ON = codes "ON"
class_name LRE = codes "LRE"
class_name LRO = codes "LRO"
class_name RLE = codes "RLE"
class_name RLO = codes "RLO"
class_name PDF = codes "PDF"
class_name LRI = codes "LRI"
class_name RLI = codes "RLI"
class_name FSI = codes "FSI"
class_name PDI = codes "PDI"

-- the same, or a dash if there is none
abbrev pub option_name : Option BidiClass → List ℕ
option_name (Some class) = class_name class
option_name None = codes "-"

-- characters of this class are invisible: white space, separators, and boundary neutrals
abbrev pub is_unseen : BidiClass → Bool
is_unseen B = true
is_unseen S = true
is_unseen WS = true
is_unseen BN = true
is_unseen _ = false

-- a character that is no control and no mark: an invisible one is nothing, and a nonspacing mark follows a dotted
-- circle
abbrev pub plain_glyph : BidiClass → ℕ → List ℕ
plain_glyph class c = if is_unseen class then [] else (if is_nsm class then 0xE2 ∷ 0x97 ∷ 0x8C ∷ [] else []) ++ encode_utf8 c

abbrev pub glyph_of : Option Control → BidiClass → ℕ → List ℕ
glyph_of (Some control) class c = control_short control
glyph_of None class c = plain_glyph class c

-- a character so that it can be read by itself: a control or a mark by its short name
abbrev pub glyph : BidiClass → ℕ → List ℕ
glyph class c = glyph_of (control_of class c) class c
