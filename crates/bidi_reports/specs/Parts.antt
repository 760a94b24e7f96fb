-- The part of a line that a report shows.
use Rattle.std.specs.Prelude.{ℕ, ◌+◌, ◌-◌, ◌==◌, Bool, not, nat_le, nat_lt, ◌&&◌, ◌||◌, if◌then◌else◌, min, List, [], ◌∷◌, ◌++◌, length, flat_map, replicate, slice_range, codes, encode_utf8}
use Rattle.bidi_base.specs.Direction.{may_turn}
use Rattle.bidi_terminal.specs.CodePoints.{code_point}
use Rattle.bidi_terminal.specs.Names.{is_hidden}
use Rattle.bidi_shown.specs.Clusters.{columns}
use Rattle.bidi_reports.specs.declared.parts.Escapes.{Escapes}
use Rattle.bidi_reports.specs.declared.parts.Escapes.TheVariants.{Hidden, HiddenAndRightToLeft}
use Rattle.bidi_unicode.specs.Unicode.{unicode_source}

-- sequences that set how a terminal writes: in bold, in reverse video, in bold red, and as before
abbrev pub bold : List ℕ
bold = 27 ∷ codes "[1m"

abbrev pub reverse_video : List ℕ
reverse_video = 27 ∷ codes "[7m"

abbrev pub bold_red : List ℕ
bold_red = 27 ∷ codes "[1;31m"

abbrev pub as_before : List ℕ
as_before = 27 ∷ codes "[0m"

-- a text in this style, if colours are used
abbrev pub styled : Bool → List ℕ → List ℕ → List ℕ
styled colors style text = if colors then style ++ (text ++ as_before) else text

-- a character that can keep a line of level 0 from being all left to right, by Unicode's data: one of right-to-left text
-- (R, AL and AN), or a control that opens an embedding, an override or an isolate
abbrev pub is_right_to_left : ℕ → Bool
is_right_to_left c = may_turn (unicode_source.class_of c)

-- a hidden character that is written by its code point: a tab is written as a space
abbrev pub is_hidden_in_line : ℕ → Bool
is_hidden_in_line c = is_hidden c && not (c == 9)

-- a character that is written by its code point
abbrev pub is_marked : Escapes → ℕ → Bool
is_marked Hidden c = is_hidden_in_line c
is_marked HiddenAndRightToLeft c = is_hidden_in_line c || is_right_to_left c

-- a character by its code point
unfoldable pub escape_of : ℕ → List ℕ
escape_of c = codes "<U+" ++ (code_point c ++ codes ">")

-- a character of a line that is not written by its code point
abbrev pub plain_char : ℕ → List ℕ
plain_char c = if c == 9 then codes " " else encode_utf8 c

-- a character of a line
abbrev pub marked_char : Escapes → Bool → ℕ → List ℕ
marked_char escapes colors c = if is_marked escapes c then styled colors reverse_video (escape_of c) else plain_char c

-- the index from which a line of this length is shown: in a line of more than 200 characters, 100 characters before the
-- index that matters, but at least 200 before the end
abbrev pub part_start : ℕ → ℕ → ℕ
part_start size place = if nat_le size 200 then 0 else min (place - 100) (size - 200)

-- the index up to which it is shown
abbrev pub part_end : ℕ → ℕ → ℕ
part_end size place = min (part_start size place + 200) size

-- what is written in place of characters that are left out
abbrev pub dots : Bool → List ℕ
dots left_out = if left_out then codes "..." else []

-- a line, or the part around an index
unfoldable pub marked_part : Escapes → Bool → List ℕ → ℕ → List ℕ
marked_part escapes colors line place =
    dots (nat_lt 0 (part_start (length line) place))
    ++ (flat_map (marked_char escapes colors) (slice_range line (part_start (length line) place) (part_end (length line) place))
    ++ dots (nat_lt (part_end (length line) place) (length line)))

-- the columns that a character of a line takes in a report
abbrev pub shown_columns : ℕ → ℕ
shown_columns c = if c == 9 then 1 else if is_hidden c then 8 else columns c

abbrev pub blanks : ℕ → List ℕ
blanks size = replicate size 32

-- the spaces below the characters of a part that are before an index
unfoldable pub blank_part : List ℕ → ℕ → List ℕ
blank_part line place =
    blanks (length (dots (nat_lt 0 (part_start (length line) place))))
    ++ flat_map (λ c. blanks (shown_columns c)) (slice_range line (part_start (length line) place) (min place (length line)))
