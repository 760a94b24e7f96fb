-- Where a paragraph is cut into lines, by the widths of its clusters.
use Rattle.std.specs.Prelude.{ℕ, zero, suc, ◌+◌, ◌-◌, Bool, true, false, not, ◌&&◌, ◌||◌, ◌==◌, nat_lt, if◌then◌else◌, List, [], ◌∷◌, length, map, drop, slice_range, get_or}
use Rattle.std.specs.List.{list_all}
use Rattle.bidi_base.specs.declared.char_data.BidiClass.{BidiClass}
use Rattle.bidi_base.specs.declared.char_data.BidiClass.TheVariants.{B, S, WS}
use Rattle.bidi_base.specs.Display.{Run}
use Rattle.bidi_display.specs.declared.line_breaks.Break.{Break}
use Rattle.bidi_display.specs.declared.line_breaks.Break.TheVariants.{Forbidden, Allowed, Forced}
use Rattle.bidi_display.specs.declared.line_char.LineChar.{LineChar}
use Rattle.bidi_display.specs.declared.line_cluster.LineCluster.{LineCluster}
use Rattle.bidi_display.specs.declared.options.DisplayOptions.{DisplayOptions}
use Rattle.bidi_display.specs.DisplayedLine.{add_columns, tab_columns}
use Rattle.bidi_display.specs.LineClusters.{displayed_chars}

-- the classes of white space and of separators
abbrev pub is_white_space : BidiClass → Bool
is_white_space B = true
is_white_space S = true
is_white_space WS = true
is_white_space _ = false

abbrev pub is_allowed : Break → Bool
is_allowed Allowed = true
is_allowed _ = false

abbrev pub is_forced : Break → Bool
is_forced Forced = true
is_forced _ = false

-- by the simple rule: a line must end after U+2028, VT and FF, and may end after white space and separators
abbrev pub simple_break : LineChar → Break
simple_break c =
    if c.char == 0x2028 || c.char == 0x0B || c.char == 0x0C then Forced
    else if is_white_space c.class then Allowed else Forbidden

abbrev pub simple_break_after : List LineChar → Break
simple_break_after [] = Forbidden
simple_break_after (c ∷ []) = simple_break c
simple_break_after (c ∷ d ∷ cs) = simple_break_after (d ∷ cs)

-- a list of breaks, one after each code unit of a text: the one after the last code unit of the character. Past the list
-- a line may not end
abbrev pub given_break : List Break → LineChar → Break
given_break after c = if c.end == 0 then Forbidden else get_or after (c.end - 1) Forbidden

abbrev pub given_break_after : List Break → List LineChar → Break
given_break_after after [] = Forbidden
given_break_after after (c ∷ []) = given_break after c
given_break_after after (c ∷ d ∷ cs) = given_break_after after (d ∷ cs)

-- the characters of a cluster, from those of the paragraph
abbrev pub chars_of : List LineChar → LineCluster → List LineChar
chars_of chars k = slice_range chars k.chars_start k.chars_end

abbrev pub are_white_space : List LineChar → Bool
are_white_space cluster = list_all (λ c. is_white_space c.class) cluster

-- the cluster is white space, which takes no width at the end of a line
abbrev pub hangs : List LineChar → LineCluster → Bool
hangs chars k = are_white_space (chars_of chars k)

-- how many clusters there are before those at the end that are white space or separators
abbrev pub shown_length : List LineChar → List LineCluster → ℕ
shown_length chars [] = 0
shown_length chars (k ∷ ks) = if shown_length chars ks == 0 && hangs chars k then 0 else suc (shown_length chars ks)

-- where these clusters end, or where the line starts if there are none
abbrev pub shown_end : List LineChar → ℕ → List LineCluster → ℕ
shown_end chars start ks =
    let count = shown_length chars ks in
    if count == 0 then start else get_or (map (λ c. c.end) ks) (count - 1) start

-- these displayed characters begin with a tab that goes to a tab stop
abbrev pub begins_with_tab : DisplayOptions → List LineChar → Bool
begins_with_tab options [] = false
begins_with_tab options (c ∷ cs) = c.char == 0x09 && not (options.tab == 0)

-- the width of a cluster that begins at a column of a line
abbrev pub width_in_line : DisplayOptions → List LineChar → ℕ → LineCluster → ℕ
width_in_line options chars column k =
    if begins_with_tab options (displayed_chars options (chars_of chars k)) then tab_columns options.tab column
    else k.width

-- a cluster does not fit in the line, if it begins at the column `before`, and ends at `column`. The first cluster that
-- has a width, white space, and clusters without width always fit
abbrev pub overflows : ℕ → ℕ → Bool → ℕ → ℕ → Bool
overflows limit before white width column = nat_lt 0 before && not white && nat_lt 0 width && nat_lt limit column

-- after how many clusters the line may last end, once one more is read, by whether it may end after that cluster, and
-- whether the cluster is white space. `index` clusters were read before it, and the line could last end after `last` of
-- them. White space stays in the line if it follows a cluster after which the line may end
abbrev pub last_end : Break → Bool → ℕ → ℕ → ℕ
last_end after white index last =
    if is_allowed after || nat_lt 0 index && last == index && white then index + 1 else last

-- a paragraph: how it is displayed, whether a line may end after a cluster of these characters, how many columns a line
-- has, and the characters of the paragraph
module _ (options : DisplayOptions) (break_after : List LineChar → Break) (limit : ℕ) (chars : List LineChar) where
  -- how many clusters the line has, if `index` of them were read up to a column, and the line may last end after the
  -- first `last` of them (0 if it may end after none)
  abbrev pub line_length_from : ℕ → ℕ → ℕ → List LineCluster → ℕ
  line_length_from index column last [] = index
  line_length_from index column last (k ∷ ks) =
      let width = width_in_line options chars column k in
      let after = break_after (chars_of chars k) in
      if overflows limit column (hangs chars k) width (add_columns column width) then (if last == 0 then index else last)
      else if is_forced after then index + 1
      else line_length_from (index + 1) (add_columns column width) (last_end after (hangs chars k) index last) ks

  -- how many clusters the first line has
  abbrev pub first_line_length : List LineCluster → ℕ
  first_line_length ks = line_length_from 0 0 0 ks

  -- the lines of clusters, at most n. The first one begins at a code unit
  abbrev pub lines_up_to : ℕ → ℕ → List LineCluster → List Run
  lines_up_to zero start ks = []
  lines_up_to (suc n) start [] = []
  lines_up_to (suc n) start (k ∷ ks) =
      let count = first_line_length (k ∷ ks) in
      let end = get_or (map (λ c. c.end) (k ∷ ks)) (count - 1) start in
      (start, end) ∷ lines_up_to n end (drop count (k ∷ ks))

  -- the lines of a paragraph
  unfoldable pub lines_of : ℕ → List LineCluster → List Run
  lines_of start ks = lines_up_to (length ks) start ks
