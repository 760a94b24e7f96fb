-- How a line is displayed, and lines that are displayed differently from how they read. A line here is the list of
-- its characters without the separator that ends it, and is a paragraph by itself.
use Rattle.std.specs.Prelude.{ℕ, ◌+◌, Bool, not, ◌==◌, ◌&&◌, ◌||◌, true, false, nat_eq, if◌then◌else◌, List, [], ◌∷◌, map, filter, drop, get_or, Option, Some, None}
use Rattle.std.specs.Char.{is_ascii_graphic}
use Rattle.std.specs.Cmp.Lexicographic.{pointwise}
use Rattle.std.specs.List.{list_any}
use Rattle.bidi_base.specs.declared.char_data.BidiClass.{BidiClass}
use Rattle.bidi_base.specs.declared.char_data.BidiClass.TheVariants.{R, AL, AN}
use Rattle.bidi_base.specs.Isolates.{paragraph_level, stored_classes}
use Rattle.bidi_base.specs.Levels.{is_odd}
use Rattle.bidi_base.specs.Line.{line_levels}
use Rattle.bidi_base.specs.Order.{visual_order}
use Rattle.bidi_base.specs.Source.{Source}
use Rattle.bidi_base.specs.Stored.{stored_levels}
use Rattle.bidi_controls.specs.Controls.{is_control_or_mark}
use Rattle.bidi_controls.specs.Matches.{is_control}
use Rattle.bidi_controls.specs.Placeholders.{plain_from}

-- ---- a line as a device shows it

-- the levels of a line's characters after L1, with this base level or with that of P2 and P3
unfoldable pub displayed_levels : Source → Option ℕ → List ℕ → List ℕ
displayed_levels source base_level chars =
    let classes = map source.class_of chars in
    line_levels (paragraph_level base_level classes) (stored_classes classes) (stored_levels source base_level chars)

-- the mirrored partner of an ASCII character, or the character itself if it has none; these eight are all, since the
-- partner of an ASCII character is ASCII, and no other character has a partner in ASCII
abbrev pub mirrored_ascii : ℕ → ℕ
mirrored_ascii c =
    if c == 0x28 then 0x29
    else if c == 0x29 then 0x28
    else if c == 0x3C then 0x3E
    else if c == 0x3E then 0x3C
    else if c == 0x5B then 0x5D
    else if c == 0x5D then 0x5B
    else if c == 0x7B then 0x7D
    else if c == 0x7D then 0x7B
    else c

-- a character as a device shows it at this level, mirrored if the level is odd (L4), among ASCII alone
abbrev pub shown_at : ℕ → ℕ → ℕ
shown_at level c = if is_odd level then mirrored_ascii c else c

-- the character at an index of a line, as a device shows it
abbrev pub shown_char : List ℕ → List ℕ → ℕ → ℕ
shown_char levels chars k = shown_at (get_or levels k 0) (get_or chars k 0)

-- characters as a device shows them at these levels, from left to right (L2)
unfoldable pub shown_in_order : List ℕ → List ℕ → List ℕ
shown_in_order levels chars = map (shown_char levels chars) (visual_order levels)

-- a line's characters as a device shows them, from left to right
abbrev pub as_shown : Source → Option ℕ → List ℕ → List ℕ
as_shown source base_level chars = shown_in_order (displayed_levels source base_level chars) chars

-- characters without the direction controls among them
abbrev pub without_controls : Source → List ℕ → List ℕ
without_controls source chars = filter (λ c. not (is_control (source.class_of c))) chars

-- ---- lines that are displayed differently from how they read

-- the printable ASCII characters except the space, U+0021 to U+007E
abbrev pub visible_ascii : List ℕ → List ℕ
visible_ascii chars = filter is_ascii_graphic chars

-- the index, in a list of characters that a device shows, of the first printable ASCII character other than the space that
-- is not the next one of these that are read; or the number of characters, if there is none
abbrev pub first_moved : List ℕ → List ℕ → ℕ
first_moved [] read = 0
first_moved (c ∷ shown) read =
    if not (is_ascii_graphic c) then first_moved shown read + 1
    else if get_or read 0 0 == c then first_moved shown (drop 1 read) + 1
    else 0

-- these two lists of characters are the same
abbrev pub are_same : List ℕ → List ℕ → Bool
are_same left right = pointwise nat_eq left right

-- a line without its direction controls and marks but those of placeholder isolates
unfoldable pub plain_line : Source → List ℕ → List ℕ
plain_line source chars = plain_from source false chars

-- the visible ASCII that a device shows of a line, with this base level or with that of P2 and P3
unfoldable pub shown_ascii : Source → Option ℕ → List ℕ → List ℕ
shown_ascii source base_level chars = visible_ascii (as_shown source base_level chars)

-- it is what is read
abbrev pub is_as_read : Source → Option ℕ → List ℕ → Bool
is_as_read source base_level chars = are_same (shown_ascii source base_level chars) (visible_ascii chars)

-- it is what a device shows if the controls and marks are deleted from the line but those of placeholder isolates
abbrev pub is_as_plain : Source → Option ℕ → List ℕ → Bool
is_as_plain source base_level chars =
    are_same (shown_ascii source base_level chars) (shown_ascii source base_level (plain_line source chars))

-- with this base level, the visible ASCII that a device shows of a line is neither what is read, nor what it shows if
-- the controls and marks are deleted from the line but those of placeholder isolates
unfoldable pub differs_with_base : Source → Option ℕ → List ℕ → Bool
differs_with_base source base_level chars = not (is_as_read source base_level chars) && not (is_as_plain source base_level chars)

-- some character is a direction control or a mark
abbrev pub has_control_or_mark : Source → List ℕ → Bool
has_control_or_mark source chars = list_any (λ c. is_control_or_mark source c) chars

-- a line that has a control or a mark differs from left to right, or with the base level that P2 and P3 give it
unfoldable pub is_displayed_differently : Source → List ℕ → Bool
is_displayed_differently source chars =
    has_control_or_mark source chars && (differs_with_base source (Some 0) chars || differs_with_base source None chars)

-- a class of letters and numbers that are displayed from right to left, or in a text from right to left
abbrev pub is_right_to_left : BidiClass → Bool
is_right_to_left R = true
is_right_to_left AL = true
is_right_to_left AN = true
is_right_to_left _ = false

-- some character is of such a class
abbrev pub has_right_to_left : Source → List ℕ → Bool
has_right_to_left source chars = list_any (λ c. is_right_to_left (source.class_of c)) chars

-- letters alone make a line display differently from how it reads: it does so with its controls and marks, and would do so
-- without them, apart from those of placeholder isolates
unfoldable pub is_moved_by_letters : Source → List ℕ → Bool
is_moved_by_letters source chars =
    has_right_to_left source chars && not (is_displayed_differently source chars)
    && (not (is_as_read source (Some 0) chars) || not (is_as_read source None chars))

-- the base level of P2 and P3
abbrev pub own_level : Source → List ℕ → ℕ
own_level source chars = paragraph_level None (map source.class_of chars)

-- the base level with which a line is displayed differently: 0, or otherwise its own
abbrev pub differing_level : Source → List ℕ → ℕ
differing_level source chars = if differs_with_base source (Some 0) chars then 0 else own_level source chars

-- the base level with which letters alone make it display differently
abbrev pub moving_level : Source → List ℕ → ℕ
moving_level source chars = if is_as_read source (Some 0) chars then own_level source chars else 0
