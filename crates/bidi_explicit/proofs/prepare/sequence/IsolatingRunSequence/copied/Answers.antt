use Rattle.bidi_base.proofs.Common.{◌≡◌, ◌∙◌, take_all}
use Rattle.bidi_explicit.proofs.prepare.sequence.IsolatingRunSequence.copied.Goals as goal

pub invariant_of-result : goal.invariant_of-result
invariant_of-result c =
    let all : c.loop-run.runs.items ≡ c.args.sequence.runs.now = c.loop-run.invariant ∙ take_all c.loop-run.run-index c.runs-run-items.result.now c.loop-run-test.false ∙ c.runs-run-items.ensures in
    record { well_formed = rw (all, c.sos-sos.ensures, c.eos-eos.ensures) c.args.sequence.well_formed }
