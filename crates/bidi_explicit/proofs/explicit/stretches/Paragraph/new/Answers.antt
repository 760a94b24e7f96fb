use Rattle.bidi_base.proofs.UnitsLemmas.{length-from_is_per_char}
use Rattle.bidi_base.specs.contracts.char_data.BidiClassPartialEq.TheImpl.{ghosts}
use Rattle.bidi_text.proofs.PerCharTests.{class_test}
use Rattle.bidi_explicit.proofs.explicit.stretches.Paragraph.new.Goals as goal

pub invariant_of-result-clause-long : goal.invariant_of-result-clause-long
invariant_of-result-clause-long g c =
    length-from_is_per_char ghosts.eq class_test g.T.TextSource.encoding.len_of g.T.TextSource.encoding.positive (g.T.TextSource.text c.args.text).chars c.args.original_classes.now c.requires.per_char
