use Rattle.bidi_base.proofs.Common.{arith}
use Rattle.bidi_explicit.proofs.CharEnds.{index-le}
use Rattle.bidi_explicit.proofs.explicit.stretches.Paragraph.write_override.Goals as goal

pub returns-in-Character-clause-steps_at_least : goal.returns-in-Character-clause-steps_at_least
returns-in-Character-clause-steps_at_least g c =
    let text = g.T.TextSource.text c.args.self.now.text in
    omega (
      arith,
      index-le text c.args.from c.args.to c.requires.begins c.requires.ends c.requires.ordered,
      c.put_on_characters.ensures.steps,
    )
