-- Paragraphs and runs as structs.
use Rattle.std.specs.Prelude.{ℕ, ◌-◌, List, map, zip, get_or}
use Rattle.bidi_base.specs.Display.{Run as LevelRun}
use Rattle.bidi_numbers.specs.declared.structs.Paragraph.{Paragraph}
use Rattle.bidi_numbers.specs.declared.structs.Run.{Run}

-- a paragraph of this range and level
abbrev pub paragraph_struct : (ℕ × ℕ) × ℕ → Paragraph
paragraph_struct e = record { start = e.0.0; end = e.0.1; level = e.1 }

-- the paragraphs of these ranges and levels
abbrev pub paragraph_structs : List (ℕ × ℕ) → List ℕ → List Paragraph
paragraph_structs ranges levels = map paragraph_struct (zip ranges levels)

-- a run of a line that starts at the code unit `from` and has these levels
abbrev pub run_struct : ℕ → List ℕ → LevelRun → Run
run_struct from levels run = record { start = run.0; end = run.1; level = get_or levels (run.0 - from) 0 }
