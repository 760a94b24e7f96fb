use Rattle.unicode_bidi.proofs.ParagraphUnits.{paragraphs-are_lines}
use Rattle.unicode_bidi.proofs.info.BidiInfo.of_analysis.Goals as goal

pub invariant_of-result : goal.invariant_of-result
invariant_of-result g c = record {
  paragraphs_are_lines =
      rw c.new.ensures.text
      (paragraphs-are_lines g.T.TextSource.encoding.len_of (g.T.TextSource.text c.args.text).chars c.args.found.paragraphs.items c.requires.lines);
  partition = rw c.new.ensures.text c.requires.partition;
}
