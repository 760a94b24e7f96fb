use Rattle.bidi_base.proofs.Common.{◌≡◌, ◌≤◌, ◌<◌, ℕ, None}
use Rattle.bidi_controls.specs.Controls.{control_of}
use Rattle.bidi_controls.proofs.lines.has_no_control_in_ascii.Given as goal

abbrev pub invariant-loop-code : goal.invariant-loop-code
invariant-loop-code g l =
    (c : ℕ) → 0x20 ≤ c → c < l.code → control_of ((g.D.BidiDataSource.source l.data_source).class_of c) c ≡ None
