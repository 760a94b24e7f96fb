-- The code units of level runs that the passes treat as kept, and a class written over them.
use Rattle.std.specs.Prelude.{ℕ, ◌-◌, Bool, ◌&&◌, List, length, map, filter, min, sum_by}
use Rattle.std.specs.declared.ops.Range.{Range}
use Rattle.bidi_base.specs.declared.char_data.BidiClass.{BidiClass}
use Rattle.bidi_base.specs.declared.char_data.BidiClass.TheVariants.{L}
use Rattle.bidi_base.specs.Classes.{is_kept_in_place}
use Rattle.bidi_base.specs.Indexes.{between, class_at}
use Rattle.bidi_base.specs.Units.{bounds, in_runs}
use Rattle.bidi_base.specs.Updated.{IsUpdated}

-- a code unit of some ranges that the passes treat as kept: its class is not BN
abbrev pub is_seen : List (ℕ × ℕ) → List BidiClass → ℕ → Bool
is_seen runs classes k = in_runs runs k && is_kept_in_place (class_at classes k)

-- the class was written over the code units from `from` up to `to` that pass the test, and over no others
abbrev pub IsWrittenOver : (ℕ → Bool) → BidiClass → ℕ → ℕ → List BidiClass → List BidiClass → Type 0
IsWrittenOver test class from to old new = IsUpdated L test (λ c. class) from to old new

-- the class was written over the code units of some level runs from `from` up to `to` that are not BN, and over no
-- others
abbrev pub WritesInRuns : List (Range ℕ) → BidiClass → ℕ → ℕ → List BidiClass → List BidiClass → Type 0
WritesInRuns runs class from to old new = IsWrittenOver (is_seen (map bounds runs) old) class from to old new

-- the code units of some ranges that are not BN: from `low` up to `high`, and all of them
abbrev pub seen_from : List (ℕ × ℕ) → List BidiClass → ℕ → ℕ → List ℕ
seen_from runs classes low high = filter (is_seen runs classes) (between low high)

abbrev pub seen_units : List (ℕ × ℕ) → List BidiClass → List ℕ
seen_units runs classes = seen_from runs classes 0 (length classes)

-- how many code units of some ranges are before u
unfoldable pub count_below : List (ℕ × ℕ) → ℕ → ℕ
count_below runs u = sum_by (λ r. min r.1 u - min r.0 u) runs
