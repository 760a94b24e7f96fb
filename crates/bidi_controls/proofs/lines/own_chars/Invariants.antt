use Rattle.bidi_base.proofs.Common.{◌≡◌, ◌++◌, take, drop}
use Rattle.bidi_base.specs.Paragraphs.{own_chars}
use Rattle.bidi_controls.proofs.lines.own_chars.Given as goal

abbrev pub invariant-loop-at : goal.invariant-loop-at
invariant-loop-at g l = own_chars (g.D.BidiDataSource.source l.fn.data_source) l.line ≡ take l.at l.line ++ own_chars (g.D.BidiDataSource.source l.fn.data_source) (drop l.at l.line)
