use Rattle.bidi_base.proofs.Common.{arith}
use Rattle.bidi_explicit.proofs.OpenIsolates.{last-grown}
use Rattle.bidi_explicit.proofs.prepare.waiting.Waiting.push_unwaited.Goals as goal

pub returns-then-times-last : goal.returns-then-times-last
returns-then-times-last c = grind (arith, last-grown c.self.inside.rows.items c.in-Some.last.now c.args.times)
