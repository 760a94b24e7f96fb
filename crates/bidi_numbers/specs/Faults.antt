-- Why a call returns an error, and the number of each error.
use Rattle.std.specs.Prelude.{◌≡◌, ◌≢◌, ℕ, ℤ, pos, negsuc, ◌-◌, ◌^◌, min, Bool, ◌||◌, ◌==◌, nat_le, if◌then◌else◌, Option, Some, None, Result, Ok, Err, MatchResult}
use Rattle.bidi_numbers.specs.declared.fault.Fault.{Fault}
use Rattle.bidi_numbers.specs.declared.fault.Fault.TheVariants.{NoMemory, NotUtf8, NotScalar, BadBaseLevel, BadSplit, BadClass, BadLevel, UnequalLengths, BadLine, CutCharacter, UnevenCharacter, NoRoom, BadRanges, BadBracket, BadFlags}

-- the fault of a test that fails
abbrev pub fault_unless : Bool → Fault → Option Fault
fault_unless holds fault = if holds then None else Some fault

-- a buffer of `room` entries has room for `count` entries, or is empty: then the entries are only counted
abbrev pub has_room_or_none : ℕ → ℕ → Bool
has_room_or_none count room = room == 0 || nat_le count room

-- the number of a fault
abbrev pub code_of : Fault → ℤ
code_of NoMemory = negsuc 0
code_of NotUtf8 = negsuc 1
code_of NotScalar = negsuc 2
code_of BadBaseLevel = negsuc 3
code_of BadSplit = negsuc 4
code_of BadClass = negsuc 5
code_of BadLevel = negsuc 6
code_of UnequalLengths = negsuc 7
code_of BadLine = negsuc 8
code_of CutCharacter = negsuc 9
code_of UnevenCharacter = negsuc 10
code_of NoRoom = negsuc 11
code_of BadRanges = negsuc 12
code_of BadBracket = negsuc 13
code_of BadFlags = negsuc 14

-- what an export returns: a count, at most 2^63 - 1, or the number of a fault
abbrev pub answer_of : Result ℕ Fault → ℤ
answer_of (Ok count) = pos (min count (2 ^ 63 - 1))
answer_of (Err fault) = code_of fault

-- a call that returns the first fault, if there is one: it succeeds only without a fault, and any error but a failed
-- allocation is that fault
abbrev pub FaultsAs : {A : Type 0} → Result A Fault → Option Fault → Type 0
FaultsAs result expected = MatchResult result (λ _. expected ≡ None) (λ fault. fault ≢ NoMemory → expected ≡ Some fault)
