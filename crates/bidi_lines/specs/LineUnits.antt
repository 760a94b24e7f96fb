-- The code units of a line, written from left to right. The definitions are those of `Display`, for code units of any
-- type.
use Rattle.std.specs.Prelude.{ℕ, if◌then◌else◌, List, All, reverse, flat_map, slice_range}
use Rattle.std.specs.declared.ops.Range.{Range}
use Rattle.bidi_base.specs.AnalysedText.{AnalysedText}
use Rattle.bidi_base.specs.Display.{Run, run_level, visual_runs}
use Rattle.bidi_base.specs.Levels.{is_odd}
use Rattle.bidi_base.specs.Line.{levels_of_line}
use Rattle.bidi_base.specs.Text.{subrange, IsLine}

-- the code units of a level run of a line, from the whole text: a run of an even level unchanged, and a run of an odd
-- level as its characters in reverse order
abbrev pub run_units : {X : Type 0} → (ℕ → ℕ) → (ℕ → List X) → List ℕ → List X → ℕ → List ℕ → Run → List X
run_units len_of encode chars units from levels run =
    if is_odd (run_level from levels run) then flat_map encode (reverse (subrange len_of chars run.0 run.1))
    else slice_range units run.0 run.1

-- those of the runs of a line from left to right (L2), from the levels of its code units after L1
abbrev pub visual_units : {X : Type 0} → (ℕ → ℕ) → (ℕ → List X) → List ℕ → List X → ℕ → List ℕ → List X
visual_units len_of encode chars units start shown =
    flat_map (run_units len_of encode chars units start shown) (visual_runs start shown)

-- the same for a line of an analysed text and the level of its paragraph
abbrev pub line_units : {X : Type 0} → (ℕ → List X) → List X → AnalysedText → ℕ → Range ℕ → List X
line_units encode units a level line =
    visual_units a.len_of encode a.chars units line.start (levels_of_line level a.classes a.levels line.start line.end)

-- the visual runs of a line cut no character
abbrev pub AreRunsOfChars : (ℕ → ℕ) → List ℕ → ℕ → List ℕ → Type 0
AreRunsOfChars len_of chars start shown = All (λ r. IsLine len_of chars r.0 r.1) (visual_runs start shown)
