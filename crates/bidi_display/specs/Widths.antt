-- The columns of characters in a terminal.
use Rattle.std.specs.Prelude.{ℕ, Bool, true, false, ◌||◌, if◌then◌else◌, List, [], ◌∷◌, Option, Some, None, fold, unwrap_or}
use Rattle.std.specs.Int.{is_in_range}
use Rattle.unicode_width.specs.Width.{char_width, str_width}
use Rattle.bidi_display.specs.DisplayedLine.{add_columns}

-- the columns of a character by itself, 0 if it has no width
abbrev pub columns : Bool → ℕ → ℕ
columns wide_ambiguous c = unwrap_or (char_width wide_ambiguous c) 0

-- a frequent character that takes one column: printable ASCII, and letters of Hebrew and Arabic
abbrev pub is_narrow : ℕ → Bool
is_narrow c = is_in_range 0x20 0x7E c || is_in_range 0x5D0 0x5EA c || is_in_range 0x620 0x64A c

-- the sum of the columns of characters
abbrev pub sum_of_columns : Bool → List ℕ → ℕ
sum_of_columns wide_ambiguous chars = fold (λ sum c. add_columns sum (columns wide_ambiguous c)) 0 chars

-- a character that has no width: a control character
abbrev pub is_without_width : Option ℕ → Bool
is_without_width None = true
is_without_width (Some width) = false

abbrev pub begins_with_control : List ℕ → Bool
begins_with_control [] = false
begins_with_control (c ∷ cs) = is_without_width (char_width false c)

-- the columns of a cluster: 0 if it begins with a control character
abbrev pub columns_of_cluster : Bool → List ℕ → ℕ
columns_of_cluster wide_ambiguous chars =
    if begins_with_control chars then 0 else str_width wide_ambiguous chars
