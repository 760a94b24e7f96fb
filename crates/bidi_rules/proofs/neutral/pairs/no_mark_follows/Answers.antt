use Rattle.bidi_base.proofs.Common.{arith, and_parts}
use Rattle.bidi_explicit.proofs.RunOf.{run_end}
use Rattle.bidi_rules.proofs.NearestLemmas.{in-here}
use Rattle.bidi_rules.proofs.neutral.pairs.no_mark_follows.Goals as goal

pub bounds-classes-bracket : goal.bounds-classes-bracket
bounds-classes-bracket c = grind (arith, run_end _ c.args.runs.now 0 c.requires.inside)

pub bounds-original_classes-bracket : goal.bounds-original_classes-bracket
bounds-original_classes-bracket c = grind (arith, run_end _ c.args.runs.now 0 c.requires.inside)

pub returns : goal.returns
returns c = grind (arith, run_end _ c.args.runs.now 0 c.requires.inside, in-here c.args.runs.now 0, and_parts)
