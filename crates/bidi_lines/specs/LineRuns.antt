-- The visual runs that a value has found for a line.
use Rattle.std.specs.Prelude.{List, map}
use Rattle.bidi_base.specs.Display.{Run, run_of}
use Rattle.bidi_lines.specs.declared.visual_runs.LineRuns.{LineRuns}

-- the runs from left to right
abbrev pub runs : LineRuns → List Run
runs r = map run_of r.ordered.items
