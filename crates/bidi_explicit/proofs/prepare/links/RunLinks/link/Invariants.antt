-- The runs that came are linked.
use Rattle.bidi_base.proofs.Common.{take}
use Rattle.bidi_explicit.proofs.RunLoop.{AreLinkedSoFar}
use Rattle.bidi_explicit.proofs.prepare.links.RunLinks.link.Given as goal

abbrev pub invariant-loop-run : goal.invariant-loop-run
invariant-loop-run g l =
    AreLinkedSoFar (g.T.TextSource.text l.fn.leveled.text) l.fn.leveled.original_classes.now l.fn.leveled.levels.now l.para_level l.has_isolate_controls (take l.run-index l.runs) l.self l.level_before
