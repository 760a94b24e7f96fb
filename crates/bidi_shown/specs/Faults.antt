-- Why bytes are not shown.
use Rattle.std.specs.Prelude.{◌≡◌, ℕ, ◌+◌, ◌-◌, ◌^◌, List, ⊤, min}
use Rattle.std.specs.Str.{IsUtf8}
use Rattle.std.specs.Str.Lossy.{utf8_valid_len}
use Rattle.bidi_shown.specs.declared.stream.StreamFault.{StreamFault}
use Rattle.bidi_shown.specs.declared.stream.StreamFault.TheVariants.{NotUtf8, Memory}

-- if the fault is `NotUtf8`, it has the index at which these bytes stop being UTF-8; `Memory` may come with any bytes
abbrev pub ReportsBytes : List ℕ → StreamFault → Type 0
ReportsBytes bytes (NotUtf8 at) = (at ≡ utf8_valid_len bytes) × (IsUtf8 bytes → ⊥)
ReportsBytes bytes Memory = ⊤

-- the index in a text of a byte that has so many others before it, or the maximum `usize` if that is less
abbrev pub index_after : ℕ → ℕ → ℕ
index_after before at = min (before + at) (2 ^ 64 - 1)

-- like `ReportsBytes`, for bytes of a text that has `before` other bytes before them: the index counts those too
abbrev pub ReportsBytesAfter : ℕ → List ℕ → StreamFault → Type 0
ReportsBytesAfter before bytes (NotUtf8 at) = (at ≡ index_after before (utf8_valid_len bytes)) × (IsUtf8 bytes → ⊥)
ReportsBytesAfter before bytes Memory = ⊤
