use Rattle.bidi_base.proofs.Common.{◌≡◌, ◌-◌, ◌^◌, vec_len}
use Rattle.std.specs.Io.KnownBytes.{Consumes}
use Rattle.bidi_show_run.proofs.input.read_all.Given as goal

abbrev pub invariant-loop-bytes : goal.invariant-loop-bytes
invariant-loop-bytes g l = record {
  consumed : Consumes (g.R.ShowIn.left l.initial.input) (g.R.ShowIn.left l.input) l.bytes.items;
  failed : g.R.ShowIn.failed_reads l.input ≡ g.R.ShowIn.failed_reads l.initial.input;
  ended : g.R.ShowIn.ended_reads l.input ≡ g.R.ShowIn.ended_reads l.initial.input;
}

abbrev pub decreases-loop-bytes : goal.decreases-loop-bytes
decreases-loop-bytes g l = 2 ^ 64 - vec_len l.bytes
