-- All ranges so far fit.
use Rattle.bidi_base.proofs.Common.{ℕ, take, All, Range, IsLine}
use Rattle.bidi_explicit.proofs.prepare.sequence.IsolatingRunSequence.fits.Given as goal

abbrev pub invariant-loop-run : goal.invariant-loop-run
invariant-loop-run g l = All (λ (r : Range ℕ). IsLine g.T.TextSource.encoding.len_of (g.T.TextSource.text l.text).chars r.start r.end) (take l.run-index l.run-items)
