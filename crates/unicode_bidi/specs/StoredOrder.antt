-- A list of indexes that is stored only if it is not the indexes in order.
use Rattle.std.specs.Prelude.{ℕ, ◌==◌, if◌then◌else◌, List, length}
use Rattle.std.specs.List.{range_with_len}

-- the entries that a list stands for: an empty one for the indexes below `len`
abbrev pub entries : List ℕ → ℕ → List ℕ
entries list len = if length list == 0 then range_with_len 0 len else list
