-- The visual runs of a line, and how each is shown.
use Rattle.std.specs.Prelude.{ℕ, List, length, map, flat_map, None, reverse, slice_range, encode_utf8, unwrap_or, if◌then◌else◌}
use Rattle.std.specs.Char.{len_utf8}
use Rattle.std.specs.Str.{chars}
use Rattle.std.specs.declared.ops.Range.{Range}
use Rattle.bidi_base.specs.AnalysedText.{AnalysedText}
use Rattle.bidi_base.specs.Display.{Run, line_text, run_level, visual_runs}
use Rattle.bidi_base.specs.Isolates.{paragraph_level, stored_classes}
use Rattle.bidi_base.specs.Levels.{is_odd}
use Rattle.bidi_base.specs.Line.{levels_of_line}
use Rattle.bidi_base.specs.Source.{Source}
use Rattle.bidi_base.specs.Stored.{stored_levels}
use Rattle.bidi_unicode.specs.Unicode.{mirrored_of}

-- the text of a run and the number of its level, from the text, where the line begins, and the line's levels
abbrev pub text_and_level : List ℕ → ℕ → List ℕ → Run → List ℕ × ℕ
text_and_level text from levels run = (slice_range text run.0 run.1, run_level from levels run)

-- the same of each visual run of a line, from left to right
abbrev pub runs_of_line : List ℕ → AnalysedText → ℕ → Range ℕ → List (List ℕ × ℕ)
runs_of_line text a level line =
    let levels = levels_of_line level a.classes a.levels line.start line.end in
    map (text_and_level text line.start levels) (visual_runs line.start levels)

-- the characters of a run in reverse, each as its mirrored character if it has one (L4)
abbrev pub mirrored_run : List ℕ → List ℕ
mirrored_run text = flat_map (λ c. encode_utf8 (unwrap_or (mirrored_of c) c)) (reverse (chars text))

-- a run from left to right
abbrev pub shown_run : List ℕ × ℕ → List ℕ
shown_run run = if is_odd run.1 then mirrored_run run.0 else run.0

-- a text that is one paragraph and one line, from left to right
abbrev pub shown_paragraph : Source → List ℕ → List ℕ
shown_paragraph source text =
    let cs = chars text in
    let classes = map source.class_of cs in
    line_text len_utf8 encode_utf8 cs text (paragraph_level None classes) (stored_classes classes) (stored_levels source None cs) 0 (length text)
