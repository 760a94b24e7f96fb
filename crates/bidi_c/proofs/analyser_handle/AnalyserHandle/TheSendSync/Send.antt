-- What a handle owns says the same on every thread, since a kept value can cross.
use mir.Raw.{raw}
use base.Fraction.{full_share}
use base.Shift.{Keyless}
use denote.RattleType.{RattleType}
use denote.Memory.{lone}
use denote.RawPtr.{Ptr, block_ptr, null_ptr}
use denote.Param.Send.{IsSend, part_keyless}
use Rattle.std.specs.declared.option.Option.{Option}
use Rattle.std.specs.declared.option.Option.TheVariants.{None, Some}
use Rattle.std.proofs.Crossing.{frees}
use Rattle.bidi_c.specs.Held.{held_at}
use Rattle.bidi_c.specs.contracts.analyser_handle.AnalyserHandle.{the_row}
use Rattle.bidi_calls.specs.contracts.kept.KeptAnalyser as kept
use Rattle.bidi_calls.proofs.kept.KeptAnalyser.TheSendSync.{the_send}

held_keyless : (R : RattleType) → IsSend R → (p : Ptr) (x : Option R.Denot) → Keyless (held_at R p x)
held_keyless R send p None = λ _. tt
held_keyless R send null_ptr (Some x) = λ heap. (tt, frees.frees heap (raw (lone R.mir)) null_ptr)
held_keyless R send (block_ptr b o) (Some x) = λ heap. (part_keyless R send full_share x b o, frees.frees heap (raw (lone R.mir)) (block_ptr b o))

pub send : IsSend the_row
send = record { owned = λ h vs. ((λ vss. (tt, (tt, tt))), held_keyless kept.the_row the_send h.at h.value); leaving = λ k h w. tt }
