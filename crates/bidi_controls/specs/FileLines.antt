-- The lines of a file, as editors count them.
use Rattle.std.specs.Prelude.{ℕ, ◌+◌, Bool, false, List, [], ◌∷◌, ◌==◌, ◌&&◌, ◌||◌, not, slice_index, if◌then◌else◌}
use Rattle.bidi_base.specs.Paragraphs.{SplitTest, cut_after}

-- a line feed is first
abbrev pub is_before_line_feed : List ℕ → Bool
is_before_line_feed [] = false
is_before_line_feed (c ∷ cs) = c == 0x0A

-- a line of a file ends after a line feed, a CR LF as one, or a carriage return
abbrev pub ends_file_line : SplitTest
ends_file_line c after = c == 0x0A || (c == 0x0D && not (is_before_line_feed after))

-- the lines of a file, each with the characters that end it
abbrev pub file_lines_of : List ℕ → List (List ℕ)
file_lines_of chars = cut_after ends_file_line chars

-- a line feed or a carriage return
abbrev pub is_break : ℕ → Bool
is_break c = c == 0x0A || c == 0x0D

-- where the one at this index ends, with the line feed of a CR LF
abbrev pub break_end : List ℕ → ℕ → ℕ
break_end bytes at = if slice_index bytes at == 0x0D && slice_index bytes (at + 1) == 0x0A then at + 2 else at + 1
