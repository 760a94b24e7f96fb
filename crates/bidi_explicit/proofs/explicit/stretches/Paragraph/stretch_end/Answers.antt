-- A search over code units finds the first one of a character, or the end of the text.
use Rattle.bidi_base.proofs.Common.{arith, passing}
use Rattle.bidi_explicit.specs.ExplicitStretches.{paragraph_of}
use Rattle.bidi_explicit.proofs.ExplicitStretches.{first-is_boundary, is_boundary-end, IsFirst-from_next}
use Rattle.bidi_explicit.specs.Control.{is_control}
use Rattle.bidi_explicit.proofs.explicit.stretches.Paragraph.stretch_end.Goals as goal

pub next_character-requires-clause-ends : goal.next_character-requires-clause-ends
next_character-requires-clause-ends g c = is_boundary-end (g.T.TextSource.text c.args.self.now.text) _ c.args.self.now.long

pub returns-in-CodeUnit-clause-begins : goal.returns-in-CodeUnit-clause-begins
returns-in-CodeUnit-clause-begins g c =
    let text = g.T.TextSource.text c.args.self.now.text in
    let next = c.first_passing_counted.ensures.first in
    first-is_boundary (paragraph_of text c.args.self.now.level c.args.self.now.original_classes.now)
    c.args.self.now.per_char is_control _ _ _ c.requires.begins (is_boundary-end text _ c.args.self.now.long) (omega arith) (IsFirst-from_next (passing is_control c.args.self.now.original_classes.now) _ _ _ c.requires.plain next)

pub returns-in-CodeUnit-clause-first : goal.returns-in-CodeUnit-clause-first
returns-in-CodeUnit-clause-first g c =
    IsFirst-from_next (passing is_control c.args.self.now.original_classes.now) _ _ _ c.requires.plain c.first_passing_counted.ensures.first
