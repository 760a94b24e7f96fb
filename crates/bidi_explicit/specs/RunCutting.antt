-- The steps of the explicit pass: how it writes levels and cuts level runs.
use Rattle.std.specs.Prelude.{◌≡◌, ℕ, ◌+◌, Bool, false, not, ◌==◌, if◌then◌else◌, List, [], ◌∷◌, ◌++◌, take, drop, replicate, map, filter, option_map, Option, Some, None}
use Rattle.std.specs.List.{range_with_len}
use Rattle.bidi_base.specs.declared.char_data.BidiClass.{BidiClass}
use Rattle.bidi_base.specs.Sequences.{kept_before, level_at, begins_run}
use Rattle.bidi_base.specs.Text.{unit_index}
use Rattle.bidi_base.specs.Units.{ranges_between}

-- the list with x at the `len` entries from `start` on
abbrev pub filled : {X : Type 0} → ℕ → ℕ → X → List X → List X
filled start len x units = take start units ++ (replicate len x ++ drop (start + len) units)

-- the level of a kept character differs from that of the kept character before it
abbrev pub differs : Option ℕ → ℕ → Bool
differs None level = false
differs (Some last) level = not (last == level)

-- the level runs that have ended before a kept character at index `at`, and where the run of this character starts
abbrev pub runs_before : Option ℕ → ℕ → ℕ → ℕ → List (ℕ × ℕ) → List (ℕ × ℕ)
runs_before last level start at runs = if differs last level then runs ++ (start, at) ∷ [] else runs

abbrev pub run_start : Option ℕ → ℕ → ℕ → ℕ → ℕ
run_start last level start at = if differs last level then at else start

-- after the first k characters, these runs have ended, the open run began at index `from`, and `last` is the level of
-- the last kept character
pub record IsCutTo (len_of : ℕ → ℕ) (chars : List ℕ) (stored : List BidiClass) (levels : List ℕ) (k : ℕ)
    (runs : List (ℕ × ℕ)) (from : ℕ) (last : Option ℕ) : Type 0 where
  pub level : last ≡ option_map (level_at levels) (kept_before stored k)
  pub cut : (end : ℕ)
      → runs ++ (from, end) ∷ []
      ≡ ranges_between (map (unit_index len_of chars) (0 ∷ filter (begins_run stored levels) (range_with_len 0 k))) end
