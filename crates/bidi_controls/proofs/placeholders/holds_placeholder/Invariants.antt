use Rattle.bidi_base.proofs.Common.{◌≡◌, drop}
use Rattle.bidi_controls.specs.Placeholders.{holds_placeholder}
use Rattle.bidi_controls.specs.declared.placeholders.PlaceholderState.TheVariants.{Before}
use Rattle.bidi_controls.proofs.placeholders.holds_placeholder.Given as goal

abbrev pub invariant-loop-c : goal.invariant-loop-c
invariant-loop-c g l =
    holds_placeholder (g.D.BidiDataSource.source l.fn.data_source) l.state (drop l.c-index l.chars) ≡ holds_placeholder (g.D.BidiDataSource.source l.fn.data_source) Before l.fn.chars
