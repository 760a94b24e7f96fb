-- The faults of a run.
use Rattle.std.specs.Prelude.{◌≡◌, ℕ, ◌+◌, List, Result, Ok, Err, codes}
use Rattle.bidi_show_run.specs.declared.fault.ShowFault.{ShowFault}
use Rattle.bidi_show_run.specs.declared.fault.ShowFault.TheVariants.{Usage, NotUtf8, Memory, Device}

-- how many reads and writes failed in a call with this result
abbrev pub device_faults : {A : Type 0} → Result A ShowFault → ℕ
device_faults (Ok answer) = 0
device_faults (Err Device) = 1
device_faults (Err Usage) = 0
device_faults (Err NotUtf8) = 0
device_faults (Err Memory) = 0

-- the failed reads of an input are counted, if a call had this result
abbrev pub CountsFaults : {I A : Type 0} → (I → ℕ) → Result A ShowFault → I → I → Type 0
CountsFaults failed_reads result old new = failed_reads new ≡ failed_reads old + device_faults result

-- the line on standard error, after the program's name
abbrev pub fault_text : ShowFault → List ℕ
fault_text Usage = codes "usage: bidi_show map <level>.. or show auto, ltr or rtl"
fault_text NotUtf8 = codes "input is not UTF-8"
fault_text Memory = codes "out of memory"
fault_text Device = codes "input or output failed"

-- the program's exit status
abbrev pub exit_status : ShowFault → ℕ
exit_status Usage = 2
exit_status NotUtf8 = 2
exit_status Memory = 3
exit_status Device = 4
