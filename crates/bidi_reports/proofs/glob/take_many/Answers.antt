use Rattle.std.proofs.Common.{arith}
use Rattle.bidi_reports.specs.Globs.{takes}
use Rattle.bidi_reports.proofs.GlobLemmas.{many-accepts}
use Rattle.bidi_reports.proofs.glob.take_many.Goals as goal

pub returns : goal.returns
returns c = λ rest before.
    many-accepts (takes c.args.part) rest c.args.chars.now c.args.ends.now c.loop-index.ends before c.loop-index.auto.ends
    (λ k within. c.loop-index.invariant.changed k (omega arith) within) c.loop-index.invariant.last
