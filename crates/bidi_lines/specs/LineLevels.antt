-- The levels that a value has found for a line.
use Rattle.std.specs.Prelude.{ℕ, if◌then◌else◌, List, take}
use Rattle.bidi_lines.specs.declared.reused_levels.LineLevels.{LineLevels}

-- the levels of the line that was shown last
abbrev pub levels : LineLevels → List ℕ
levels s = take s.len (if s.are_many then s.many.items else s.few)
