-- Placeholder isolates: isolates that hold one placeholder or one number, as in the messages of a translation. Alone, such an
-- isolate moves nothing around it.
use Rattle.std.specs.Prelude.{ℕ, Bool, true, false, not, ◌==◌, ◌&&◌, ◌||◌, if◌then◌else◌, List, [], ◌∷◌, Option, Some, None}
use Rattle.std.specs.Char.{is_ascii, is_ascii_alphabetic, is_ascii_digit}
use Rattle.std.specs.Option.{option_map_or}
use Rattle.bidi_base.specs.Classes.{is_isolate_initiator, is_pdi}
use Rattle.bidi_base.specs.Source.{Source}
use Rattle.bidi_controls.specs.Controls.{is_control_or_mark}
use Rattle.bidi_controls.specs.declared.placeholders.PlaceholderState.{PlaceholderState}
use Rattle.bidi_controls.specs.declared.placeholders.PlaceholderState.TheVariants.{Before, Number, Percent, PercentNumber, Position, Precision, Word, Dollar, DollarWord, Brace, BraceNumber, BraceSign, BraceName, BraceHyphen, BraceEnd, Parenthesis, ParenthesisName, After}

-- ---- the machine that reads the content of an isolate

-- an ASCII letter or _, also or a digit
abbrev pub is_letter : ℕ → Bool
is_letter c = is_ascii_alphabetic c || c == 0x5F

abbrev pub is_letter_or_digit : ℕ → Bool
is_letter_or_digit c = is_letter c || is_ascii_digit c

-- a space, or a character that is not ASCII
abbrev pub is_space_or_wide : ℕ → Bool
is_space_or_wide c = c == 0x20 || not (is_ascii c)

-- the state after one more character, if a placeholder can go on like that
abbrev pub step : PlaceholderState → ℕ → Option PlaceholderState
step Before c =
    if is_space_or_wide c then Some Before
    else if is_ascii_digit c then Some Number
    else if c == 0x25 then Some Percent
    else if c == 0x24 then Some Dollar
    else if c == 0x7B then Some Brace
    else None
step Number c =
    if is_ascii_digit c then Some Number
    else if is_space_or_wide c then Some After
    else None
step Percent c =
    if is_ascii_digit c then Some PercentNumber
    else if c == 0x2E then Some Precision
    else if is_letter c then Some Word
    else if c == 0x40 then Some After
    else None
step PercentNumber c =
    if is_ascii_digit c then Some PercentNumber
    else if c == 0x24 then Some Position
    else if c == 0x2E then Some Precision
    else if is_letter c then Some Word
    else if is_space_or_wide c then Some After
    else None
step Position c =
    if is_ascii_digit c then Some Position
    else if c == 0x2E then Some Precision
    else if is_letter c then Some Word
    else if c == 0x40 then Some After
    else None
step Precision c =
    if is_ascii_digit c then Some Precision
    else if is_letter c then Some Word
    else None
step Word c =
    if is_letter_or_digit c then Some Word
    else if is_space_or_wide c then Some After
    else None
step Dollar c =
    if is_ascii_digit c then Some Number
    else if is_letter c then Some DollarWord
    else if c == 0x7B then Some Brace
    else if c == 0x28 then Some Parenthesis
    else None
step DollarWord c =
    if is_letter_or_digit c then Some DollarWord
    else if c == 0x24 then Some After
    else if is_space_or_wide c then Some After
    else None
step Brace c =
    if c == 0x20 then Some Brace
    else if is_ascii_digit c then Some BraceNumber
    else if is_letter c then Some BraceName
    else if c == 0x24 || c == 0x2D then Some BraceSign
    else None
step BraceNumber c =
    if is_ascii_digit c then Some BraceNumber
    else if c == 0x20 then Some BraceEnd
    else if c == 0x7D then Some After
    else None
step BraceSign c =
    if is_letter c then Some BraceName
    else None
step BraceName c =
    if is_letter_or_digit c then Some BraceName
    else if c == 0x2D then Some BraceHyphen
    else if c == 0x20 then Some BraceEnd
    else if c == 0x7D then Some After
    else None
step BraceHyphen c =
    if is_letter_or_digit c then Some BraceName
    else None
step BraceEnd c =
    if c == 0x20 then Some BraceEnd
    else if c == 0x7D then Some After
    else None
step Parenthesis c =
    if is_letter_or_digit c then Some ParenthesisName
    else None
step ParenthesisName c =
    if is_letter_or_digit c then Some ParenthesisName
    else if c == 0x29 then Some After
    else None
step After c =
    if is_space_or_wide c then Some After
    else None

-- one placeholder or one number was read, with spaces and characters that are not ASCII around it
abbrev pub accepts : PlaceholderState → Bool
accepts Number = true
accepts PercentNumber = true
accepts Word = true
accepts DollarWord = true
accepts After = true
accepts _ = false

-- ---- placeholder isolates in a line

-- characters after an isolate initiator, of which the machine has read some: the rest of the content of a placeholder
-- isolate, and the PDI that ends it. No other control and no mark is before that PDI, so it is the one that matches (BD9).
abbrev pub holds_placeholder : Source → PlaceholderState → List ℕ → Bool
holds_placeholder source state [] = false
holds_placeholder source state (c ∷ chars) =
    if is_control_or_mark source c then is_pdi (source.class_of c) && accepts state
    else option_map_or (λ next. holds_placeholder source next chars) (step state c) false

-- a character opens a placeholder isolate, with these characters after it
abbrev pub opens_placeholder : Source → ℕ → List ℕ → Bool
opens_placeholder source c after = is_isolate_initiator (source.class_of c) && holds_placeholder source Before after

-- a character is left if the controls and marks are deleted but those of placeholder isolates; `inside` says whether it is
-- in such an isolate, or is the PDI that ends it
abbrev pub is_left : Source → Bool → ℕ → List ℕ → Bool
is_left source inside c after =
    not (is_control_or_mark source c) || opens_placeholder source c after || (inside && is_pdi (source.class_of c))

-- the next character is in a placeholder isolate, or is the PDI that ends it
abbrev pub is_inside_after : Source → Bool → ℕ → List ℕ → Bool
is_inside_after source inside c after = if is_control_or_mark source c then opens_placeholder source c after else inside

-- characters without their controls and marks but those of placeholder isolates
abbrev pub plain_from : Source → Bool → List ℕ → List ℕ
plain_from source inside [] = []
plain_from source inside (c ∷ chars) =
    let plain = plain_from source (is_inside_after source inside c chars) chars in
    if is_left source inside c chars then c ∷ plain else plain
