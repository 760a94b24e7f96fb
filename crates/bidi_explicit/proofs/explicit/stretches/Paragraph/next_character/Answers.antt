-- The units of a character have one class, so a test of its first unit tells of all.
use Rattle.bidi_base.proofs.Common.{arith, cases_lt}
use Rattle.bidi_explicit.proofs.CharEnds.{Goes, goes}
use Rattle.bidi_explicit.proofs.explicit.stretches.Paragraph.next_character.Given.{Over}
use Rattle.bidi_explicit.proofs.explicit.stretches.Paragraph.next_character.Goals as goal
use Rattle.bidi_explicit.proofs.explicit.stretches.Paragraph.next_character.Goals.{After-end_of-at}

-- the character that is passed over
next : (g : Over) (c : After-end_of-at g)
    → Goes (g.T.TextSource.text c.args.self.now.text) c.args.self.now.original_classes.now c.loop-at.at c.end_of-at.result c.args.to
next g c =
    goes (g.T.TextSource.text c.args.self.now.text) c.args.self.now.original_classes.now c.loop-at.at c.end_of-at.result c.args.to
    c.args.self.now.per_char c.loop-at.invariant.3 c.requires.ends c.loop-at-test.true (omega (arith, c.requires.within, c.args.self.now.long)) c.end_of-at.ensures

pub loop-at-smaller : goal.loop-at-smaller
loop-at-smaller g c = omega (arith, next g c)

pub loop-at-preserved : goal.loop-at-preserved
loop-at-preserved g c =
    let on = next g c in (
      omega (arith, on),
      on.within,
      λ k above below. grind (arith, cases_lt k c.loop-at.at, c.loop-at.invariant.2 k),
      on.begins,
      omega (arith, on),
    )
