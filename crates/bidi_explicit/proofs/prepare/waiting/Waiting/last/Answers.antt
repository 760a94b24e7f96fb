use Rattle.bidi_base.proofs.Common.{arith}
use Rattle.bidi_explicit.proofs.OpenIsolates.{open-last}
use Rattle.bidi_explicit.proofs.prepare.waiting.Waiting.last.Goals as goal

pub returns-in-Some : goal.returns-in-Some
returns-in-Some c = grind (arith, open-last c.self.inside.rows.items c.in-Some.last.now)
