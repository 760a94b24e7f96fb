-- What is shown plainly of a line and of a paragraph: each character is moved by itself (L2), and none is mirrored.
use Rattle.std.specs.Prelude.{ℕ, Bool, if◌then◌else◌, List, [], ◌∷◌, ◌++◌, map, flat_map, reverse, slice_range, codes, Option, Some, None, encode_utf8}
use Rattle.std.specs.Char.{len_utf8}
use Rattle.std.specs.Str.{encode_utf8_all}
use Rattle.bidi_base.specs.Display.{Run, run_level, visual_runs}
use Rattle.bidi_base.specs.Isolates.{paragraph_level, stored_classes}
use Rattle.bidi_base.specs.Levels.{is_odd}
use Rattle.bidi_base.specs.Line.{levels_of_line}
use Rattle.bidi_base.specs.Source.{Source}
use Rattle.bidi_base.specs.Stored.{stored_levels}
use Rattle.bidi_base.specs.Text.{char_index, text_len}
use Rattle.bidi_terminal.specs.Bases.{level_of_base}
use Rattle.bidi_shown.specs.Breaks.{lines_of_text}
use Rattle.bidi_shown.specs.Tabs.{spread, spread_values}
use Rattle.bidi_shown.specs.declared.view.View.{View}

-- a run of a line as it is shown: at an odd level from right to left
abbrev pub plain_run : Bool → List ℕ → List ℕ
plain_run odd chars = if odd then flat_map encode_utf8 (reverse chars) else flat_map encode_utf8 chars

abbrev pub run_at : List ℕ → List ℕ → Run → List ℕ
run_at chars levels run = plain_run (is_odd (run_level 0 levels run)) (slice_range chars run.0 run.1)

-- a line as it is shown, from its characters and their levels after L1
unfoldable pub plain_line : List ℕ → List ℕ → List ℕ
plain_line chars levels = flat_map (run_at chars levels) (visual_runs 0 levels)

-- the same with spaces for tabs. Columns are counted in the order of the text, so from the side where the line begins.
-- Tabs have the level of the paragraph (L1), so what is between two of them stays together
unfoldable pub tabbed_line : List ℕ → List ℕ → List ℕ
tabbed_line chars levels = plain_line (spread 0 chars) (spread_values 0 chars levels)

-- the levels of the line of a paragraph that goes from one character up to another, after L1
unfoldable pub shown_levels : Source → Option ℕ → List ℕ → ℕ → ℕ → List ℕ
shown_levels source base_level chars start end =
    let classes = map source.class_of chars in
    levels_of_line (paragraph_level base_level classes) (stored_classes classes) (stored_levels source base_level chars) start end

-- the lines of a paragraph, as ranges of its bytes in UTF-8: one, or those of at most so many columns
abbrev pub plain_ranges : Source → Option ℕ → List ℕ → List Run
plain_ranges source None chars = (0, text_len len_utf8 chars) ∷ []
plain_ranges source (Some width) chars = lines_of_text source width (encode_utf8_all chars)

-- a line of a paragraph as it is shown, from its range of bytes, ended by a line feed
abbrev pub plain_range : Source → View → List ℕ → Run → List ℕ
plain_range source view chars run =
    let start = char_index len_utf8 chars run.0 in
    let end = char_index len_utf8 chars run.1 in
    tabbed_line (slice_range chars start end) (shown_levels source (level_of_base view.base) chars start end) ++ codes "\n"

-- the lines of a paragraph
unfoldable pub plain_paragraph : Source → View → List ℕ → List ℕ
plain_paragraph source view chars = flat_map (plain_range source view chars) (plain_ranges source view.width chars)
