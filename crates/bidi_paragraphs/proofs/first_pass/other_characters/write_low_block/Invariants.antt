use Rattle.bidi_paragraphs.proofs.LowBlocks.{IsIdle}
use Rattle.bidi_paragraphs.proofs.first_pass.other_characters.write_low_block.Given as goal

abbrev pub invariant-loop-i : goal.invariant-loop-i
invariant-loop-i g l = IsIdle (g.D.BidiDataSource.source l.data_source) l.block l.start l.sought l.initial.classes l.i l.classes
