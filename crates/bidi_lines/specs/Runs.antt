-- The level runs of a line, as code finds them.
use Rattle.std.specs.Prelude.{◌≡◌, ℕ, ◌+◌, ◌<◌, ◌≤◌, List, ◌∷◌, length, drop}
use Rattle.std.specs.declared.ops.Range.{Range}
use Rattle.bidi_base.specs.Display.{level_runs}

-- the first run of a line that starts at the code unit `start` has `first` code units
abbrev pub IsFirstRunEnd : ℕ → List ℕ → ℕ → Type 0
IsFirstRunEnd start levels first = level_runs start levels ≡ (start, start + first) ∷ level_runs (start + first) (drop first levels)

-- the run begins in a line that starts at the code unit `start`
abbrev pub StartsInLine : ℕ → List ℕ → Range ℕ → Type 0
StartsInLine start levels run = start ≤ run.start × run.start < start + length levels
