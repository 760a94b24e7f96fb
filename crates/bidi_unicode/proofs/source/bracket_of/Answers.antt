use Rattle.bidi_unicode.specs.declared.tables.Side.TheVariants.{Open}
use Rattle.bidi_unicode.proofs.source.bracket_of.Goals as goal
use Rattle.bidi_unicode.proofs.source.bracket_of.Goals.{then-c-lt3898+in_ok-index, else-c-lt3898+in_ok-index-2}

-- the bracket of the row that was found
pub returns : goal.returns
returns c = elim c.if-c-lt3898.branch [
  | then-c-lt3898+in_ok-index w ↦ simp (c.bracket_in.ensures, w.index-is, w.in_ok-index.ensures.found.1 (0, (0, Open)))
  | else-c-lt3898+in_ok-index-2 w ↦ simp (c.bracket_in.ensures, w.index-is, w.in_ok-index-2.ensures.found.1 (0, (0, Open)))
]
