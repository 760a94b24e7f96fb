use Rattle.bidi_base.proofs.Common.{length, string_bytes}
use Rattle.bidi_base.specs.Paragraphs.{paragraphs_in}
use Rattle.bidi_explain.specs.Explained.{AreAppended}
use Rattle.bidi_explain.proofs.explain.explain.Given as goal

-- what is appended for the rest makes the tables of all lines
abbrev pub invariant-loop-rest : goal.invariant-loop-rest
invariant-loop-rest g l = (new : _) → AreAppended (g.D.BidiDataSource.source l.fn.data_source) l.view (paragraphs_in (g.D.BidiDataSource.source l.fn.data_source) l.rest) (string_bytes l.out) new
    → AreAppended (g.D.BidiDataSource.source l.fn.data_source) l.view (paragraphs_in (g.D.BidiDataSource.source l.fn.data_source) l.fn.chars) (string_bytes l.initial.out) new

abbrev pub decreases-loop-rest : goal.decreases-loop-rest
decreases-loop-rest g l = length l.rest
