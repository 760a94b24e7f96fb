use Rattle.bidi_paragraphs.proofs.AsciiBlocks.{IsWritten}
use Rattle.bidi_paragraphs.proofs.first_pass.ascii_characters.write_block.Given as goal

abbrev pub invariant-loop-i : goal.invariant-loop-i
invariant-loop-i g l = IsWritten (g.D.BidiDataSource.source l.data_source) l.block l.start l.initial.classes l.i l.classes l.found
