use Rattle.bidi_base.specs.Source.{NoMemberBelow}
use Rattle.bidi_base.proofs.data_source.TableBidiDataBidiDataSource.bidi_matched_opening_bracket.Given as goal

abbrev pub invariant-loop-i : goal.invariant-loop-i
invariant-loop-i l = NoMemberBelow l.self.brackets.now l.i l.c
