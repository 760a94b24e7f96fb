use Rattle.bidi_base.proofs.Common.{map}
use Rattle.bidi_controls.proofs.UnmatchedPass.{IsReadSoFar}
use Rattle.bidi_controls.proofs.unmatched.find_unmatched.Given as goal

abbrev pub invariant-loop-place : goal.invariant-loop-place
invariant-loop-place g l = IsReadSoFar (map (g.D.BidiDataSource.source l.fn.data_source).class_of l.line) l.place l.openers l.unmatched.items
