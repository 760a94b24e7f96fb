use Rattle.bidi_base.proofs.Common.{ℕ, List, map, sym, bounds}
use Rattle.bidi_text.proofs.PerCharTests.{class_test}
use Rattle.bidi_explicit.proofs.CharEnds.{begins_at}
use Rattle.bidi_rules.proofs.RowLemmas.{IsRow-set, IsSet-held}
use Rattle.bidi_rules.proofs.neutral.pairs.Row.set_direction.Goals as goal

pub returns-then-eq-clause-set : goal.returns-then-eq-clause-set
returns-then-eq-clause-set g c = λ k fits there.
    IsSet-held g.T.TextSource.encoding.len_of (g.T.TextSource.text c.args.text).chars (map bounds c.args.sequence.runs.now) c.args.sequence.original_classes.now g.T.TextSource.encoding.positive c.args.classes.now c.args.self.now c.args.bracket.unit k c.args.direction
    c.requires.last c.if-self-bracket.true c.if-bracket-self.true (class_test.same c.args.self.now.direction c.args.direction (sym c.if-eq.ensures)) fits there

pub returns-clause-row : goal.returns-clause-row
returns-clause-row g c =
    let len_of = g.T.TextSource.encoding.len_of in
    let chars : List ℕ = (g.T.TextSource.text c.args.text).chars in
    let b = begins_at (g.T.TextSource.text c.args.text) c.args.bracket.unit c.requires.fits.begins c.requires.fits.inside in
    IsRow-set len_of chars (map bounds c.args.sequence.runs.now) c.args.sequence.original_classes.now c.args.classes.now c.set_direction-end.new.classes c.args.bracket.unit b.index c.set_direction-end.result c.args.direction b.there
    (c.set_direction-end.ensures b.index b.within b.there)
