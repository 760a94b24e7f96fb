-- What calls of an end count.
use Rattle.std.specs.Prelude.{◌≡◌, ℕ, ◌+◌, ◌<◌, ◌≤◌, ◌↔◌, IfSome, IsErrOf, Bool, true, if◌then◌else◌, List, length, Option, Result, Ok, Err, ◌&&◌, nat_eq, nat_lt}
use Rattle.std.specs.Io.KnownBytes.{IsAtEnd}
use Rattle.std.specs.Str.{IsUtf8}
use Rattle.std.specs.declared.sync.ledger.Blank.{Blank}
use Rattle.bidi_show_run.specs.declared.fault.ShowFault.{ShowFault}
use Rattle.bidi_show_run.specs.declared.fault.ShowFault.TheVariants.{Usage, NotUtf8, Memory, Device}

-- how many failures this call reported
abbrev pub failures : {A E : Type 0} → Result A E → ℕ
failures (Ok answer) = 0
failures (Err fault) = 1

-- how many successes this call reported
abbrev pub successes : {A E : Type 0} → Result A E → ℕ
successes (Ok answer) = 1
successes (Err fault) = 0

-- how often this read came to the end: it gave no byte, and the buffer had room
abbrev pub ends_met : {E : Type 0} → Result ℕ E → List ℕ → ℕ
ends_met (Ok count) buffer = if nat_eq count 0 && nat_lt 0 (length buffer) then 1 else 0
ends_met (Err fault) buffer = 0

-- reading came to the end, once: the count of ends rose by 1, and no byte is left
abbrev pub CameToEnd : ℕ → ℕ → Option (List ℕ) → Type 0
CameToEnd before after left = (after ≡ before + 1) × IsAtEnd left

-- how far a call with this result reads: if it reads the input and succeeds, or returns NotUtf8, reading came to the
-- end. No call reads past the end
abbrev pub ReadsToEnd : {A : Type 0} → Bool → Result A ShowFault → ℕ → ℕ → Option (List ℕ) → Type 0
ReadsToEnd reads (Ok answer) before after left = reads ≡ true → CameToEnd before after left
ReadsToEnd reads (Err NotUtf8) before after left = (reads ≡ true) × CameToEnd before after left
ReadsToEnd reads (Err Usage) before after left = after ≡ before
ReadsToEnd reads (Err Memory) before after left = after ≤ before + 1
ReadsToEnd reads (Err Device) before after left = after ≤ before + 1

-- the error is NotUtf8 exactly if reading came to the end and the bytes, if these are known, are not UTF-8
abbrev pub ReportsNotUtf8 : {I A : Type 0} → (I → Option (List ℕ)) → (I → ℕ) → Result A ShowFault → I → I → Type 0
ReportsNotUtf8 left ended_reads result old new =
    IfSome (left old) (λ bytes. IsErrOf result NotUtf8 ↔ (ended_reads old < ended_reads new) × ¬ (IsUtf8 bytes))

-- a ledger of this name and of so many parts can be opened by this blank, which has one part
pub record Opens (blank : Blank) (name parts : ℕ) : Type 0 where
  pub names : blank.name ≡ name
  pub cuts : blank.parts ≡ parts
  pub whole : blank.parts ≡ 1
