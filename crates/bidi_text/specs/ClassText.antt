-- Texts of classes and brackets alone: one character for each class, which says the class and the bracket.
use Rattle.std.specs.Prelude.{ℕ, ◌+◌, ◌%◌, Bool, not, ◌&&◌, ◌||◌, ◌==◌, nat_le, nat_lt, if◌then◌else◌, List, [], ◌∷◌, get_or, position, Option, Some, None}
use lib.Utf8.{scalar}
use Rattle.bidi_base.specs.Classes.{class_number, same_class}
use Rattle.bidi_base.specs.Source.{Source}
use Rattle.bidi_base.specs.declared.char_data.BidiClass.{BidiClass}
use Rattle.bidi_base.specs.declared.char_data.BidiClass.TheVariants.{ON}
use Rattle.bidi_base.specs.declared.data_source.BidiMatchedOpeningBracket.{BidiMatchedOpeningBracket}
use Rattle.bidi_text.specs.declared.text.class_text.TheConstants.{CLASSES}

-- ---- bracket codes

-- the code of an opening bracket is this much above that of the bracket that closes its pair
abbrev pub opens : ℕ
opens = 0x80000000

-- the character of an opening bracket is this much above that of the bracket that closes its pair
abbrev pub opening_chars : ℕ
opening_chars = 0x80000

-- a bracket code: 0 for no bracket, else the opening bracket of the pair in its normal form, with `opens` added if it
-- opens. This bracket is a character from U+0020 to U+7FFFF.
abbrev pub is_bracket_code : ℕ → Bool
is_bracket_code code =
    code == 0 || (nat_le 0x20 (code % opens) && nat_lt (code % opens) opening_chars && scalar (code % opens))

-- the index of the first number that is no bracket code
abbrev pub bracket_codes_fault : List ℕ → Option ℕ
bracket_codes_fault codes = position (λ code. not (is_bracket_code code)) codes

-- a bracket counts where the class is ON and the code is not 0
abbrev pub counts : BidiClass → ℕ → Bool
counts class code = same_class class ON && not (code == 0)

-- the bracket of a code
abbrev pub bracket_of_code : ℕ → BidiMatchedOpeningBracket
bracket_of_code code = record { opening = code % opens; is_open = nat_le opens code }

-- the bracket of each class, where there is one. Classes without a code have none.
abbrev pub class_brackets : List BidiClass → List ℕ → List (Option BidiMatchedOpeningBracket)
class_brackets [] codes = []
class_brackets (class ∷ classes) [] = None ∷ class_brackets classes []
class_brackets (class ∷ classes) (code ∷ codes) =
    (if counts class code then Some (bracket_of_code code) else None) ∷ class_brackets classes codes

-- ---- the characters

-- the character of a code: the opening bracket of the pair, with `opening_chars` added if it opens. A number that is no
-- bracket code may have U+FFFD instead.
abbrev pub bracket_char : ℕ → ℕ
bracket_char code =
    let c = code % opens + (if nat_le opens code then opening_chars else 0) in
    if scalar c then c else 0xFFFD

-- the character of a class and a code: that of the code where the bracket counts, else the number of the class
abbrev pub class_char : BidiClass → ℕ → ℕ
class_char class code = if counts class code then bracket_char code else class_number class

-- the characters of classes and codes. Classes without a code have the code 0.
abbrev pub class_chars : List BidiClass → List ℕ → List ℕ
class_chars [] codes = []
class_chars (class ∷ classes) [] = class_char class 0 ∷ class_chars classes []
class_chars (class ∷ classes) (code ∷ codes) = class_char class code ∷ class_chars classes codes

-- ---- what the characters say

-- the class with a number, and ON for any other number
unfoldable pub class_numbered : ℕ → BidiClass
class_numbered n = get_or CLASSES n ON

-- the bracket of a character: none below U+0020, and none where its opening bracket would be no character
unfoldable pub char_bracket : ℕ → Option BidiMatchedOpeningBracket
char_bracket c =
    if nat_lt c 0x20 || not (scalar (c % opening_chars)) then None
    else Some (record { opening = c % opening_chars; is_open = nat_le opening_chars c })

-- the data source of these characters
abbrev pub class_source : Source
class_source = record { class_of = class_numbered; bracket_of = char_bracket }
