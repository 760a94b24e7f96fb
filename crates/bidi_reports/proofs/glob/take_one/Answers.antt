use Rattle.std.proofs.Common.{arith}
use Rattle.std.proofs.lemmas.Grind.{common_steps}
use Rattle.bidi_reports.specs.Globs.{takes}
use Rattle.bidi_reports.proofs.GlobLemmas.{one-accepts}
use Rattle.bidi_reports.proofs.glob.take_one.Goals as goal

pub returns : goal.returns
returns c = λ rest before.
    one-accepts (takes c.args.part) rest c.args.chars.now c.args.ends.now _ before (grind (arith, common_steps))
    (λ k within. grind (arith, common_steps, c.loop-index.invariant.changed k)) (grind (arith, common_steps))
