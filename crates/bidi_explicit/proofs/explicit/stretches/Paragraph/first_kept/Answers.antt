-- The characters passed over are among those of the stretch.
use Rattle.bidi_base.proofs.Common.{arith}
use Rattle.bidi_explicit.proofs.CharEnds.{index-le}
use Rattle.bidi_explicit.proofs.explicit.stretches.Paragraph.first_kept.Goals as goal

pub returns-in-Character-clause-steps_at_least : goal.returns-in-Character-clause-steps_at_least
returns-in-Character-clause-steps_at_least g c =
    omega (
      arith,
      index-le (g.T.TextSource.text c.args.self.now.text) c.args.from c.next_character.result
          c.requires.begins c.next_character.ensures.begins c.next_character.ensures.first.begins,
      c.next_character.ensures.steps,
    )

pub returns-in-Character-clause-steps_at_most : goal.returns-in-Character-clause-steps_at_most
returns-in-Character-clause-steps_at_most g c = grind (arith, index-le)
