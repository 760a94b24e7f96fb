-- Unicode's data as a data source.
use Rattle.std.specs.Prelude.{ℕ, Bool, true, false, not, ◌&&◌, ◌==◌, Option, Some, None, option_map, if◌then◌else◌}
use Rattle.ucd_bidi.specs.BidiClass.{bidi_class}
use Rattle.ucd_bidi.specs.declared.BidiClass as Property
use Rattle.ucd_bidi.specs.Binary.{is_bidi_mirrored}
use Rattle.ucd_category.specs.declared.GeneralCategory.{GeneralCategory}
use Rattle.ucd_category.specs.GeneralCategory.{general_category, general_category_eq}
use Rattle.bidi_base.specs.declared.char_data.BidiClass.{BidiClass}
use Rattle.bidi_base.specs.declared.char_data.BidiClass.TheVariants.{AL, AN, B, BN, CS, EN, ES, ET, FSI, L, LRE, LRI, LRO, NSM, ON, PDF, PDI, R, RLE, RLI, RLO, S, WS}
use Rattle.bidi_base.specs.declared.data_source.BidiMatchedOpeningBracket.{BidiMatchedOpeningBracket}
use Rattle.bidi_base.specs.Source.{Source}
use Rattle.bidi_unicode.specs.declared.tables.Side.{Side}
use Rattle.bidi_unicode.specs.declared.tables.Side.TheVariants.{Open, Close}
use Rattle.bidi_unicode.specs.declared.tables.TheConstants.{BRACKETS, MIRRORED}
use Rattle.bidi_unicode.specs.Rows.{row_value}

-- the class for a value of the property Bidi_Class
abbrev pub class_named : Property.BidiClass → BidiClass
class_named Property.BidiClass.ArabicLetter = AL
class_named Property.BidiClass.ArabicNumber = AN
class_named Property.BidiClass.ParagraphSeparator = B
class_named Property.BidiClass.BoundaryNeutral = BN
class_named Property.BidiClass.CommonSeparator = CS
class_named Property.BidiClass.EuropeanNumber = EN
class_named Property.BidiClass.EuropeanSeparator = ES
class_named Property.BidiClass.EuropeanTerminator = ET
class_named Property.BidiClass.FirstStrongIsolate = FSI
class_named Property.BidiClass.LeftToRight = L
class_named Property.BidiClass.LeftToRightEmbedding = LRE
class_named Property.BidiClass.LeftToRightIsolate = LRI
class_named Property.BidiClass.LeftToRightOverride = LRO
class_named Property.BidiClass.NonspacingMark = NSM
class_named Property.BidiClass.OtherNeutral = ON
class_named Property.BidiClass.PopDirectionalFormat = PDF
class_named Property.BidiClass.PopDirectionalIsolate = PDI
class_named Property.BidiClass.RightToLeft = R
class_named Property.BidiClass.RightToLeftEmbedding = RLE
class_named Property.BidiClass.RightToLeftIsolate = RLI
class_named Property.BidiClass.RightToLeftOverride = RLO
class_named Property.BidiClass.SegmentSeparator = S
class_named Property.BidiClass.WhiteSpace = WS

-- the opening bracket that an opening bracket is canonically equivalent to, or itself
abbrev pub normal_form : ℕ → ℕ
normal_form opening = if opening == 0x2329 then 0x3008 else opening

-- the bracket that a character is, from the other bracket of its pair and its own side
abbrev pub bracket_in : ℕ → ℕ → Side → BidiMatchedOpeningBracket
bracket_in c partner Open = record { opening = normal_form c; is_open = true }
bracket_in c partner Close = record { opening = normal_form partner; is_open = false }

-- the bracket that a character is by the table of brackets, if it is one
abbrev pub bracket_of : ℕ → Option BidiMatchedOpeningBracket
bracket_of c = option_map (λ r. bracket_in c r.0 r.1) (row_value BRACKETS c)

-- Unicode's data as a source
unfoldable pub unicode_source : Source
unicode_source = record { class_of = λ c. class_named (bidi_class c); bracket_of = bracket_of }

-- it is an opening bracket
abbrev pub is_opening : Option BidiMatchedOpeningBracket → Bool
is_opening None = false
is_opening (Some bracket) = bracket.is_open

-- it is a closing bracket
abbrev pub is_closing : Option BidiMatchedOpeningBracket → Bool
is_closing None = false
is_closing (Some bracket) = not bracket.is_open

-- the other bracket of the pair
abbrev pub other_bracket : BidiMatchedOpeningBracket → BidiMatchedOpeningBracket
other_bracket bracket = record { opening = bracket.opening; is_open = not bracket.is_open }

-- the character has that general category, and the property Bidi_Mirrored
abbrev pub is_mirrored_in : GeneralCategory → ℕ → Bool
is_mirrored_in category c = general_category_eq (general_category c) category && is_bidi_mirrored c

-- the mirrored partner of a character by the table of partners, if it has one
abbrev pub mirrored_of : ℕ → Option ℕ
mirrored_of = row_value MIRRORED
