-- How a run ended.
use Rattle.std.specs.Prelude.{ℕ}
use Rattle.bidi_arguments.specs.declared.status.Status.{Status}
use Rattle.bidi_arguments.specs.declared.status.Status.TheVariants.{Clean, Found, Refused, Memory, Device}

-- the program's exit status
abbrev pub status_number : Status → ℕ
status_number Clean = 0
status_number Found = 1
status_number Refused = 2
status_number Memory = 3
status_number Device = 4
