-- The classes so far are hidden.
use Rattle.bidi_base.proofs.Common.{◌≡◌, ◌++◌, map, take, drop, hidden}
use Rattle.bidi_paragraphs.proofs.paragraph_levels.hide_removed.Given as goal

abbrev pub invariant-loop-class : goal.invariant-loop-class
invariant-loop-class l = l.class-items ≡ map hidden (take l.class-index l.fn.classes) ++ drop l.class-index l.fn.classes
