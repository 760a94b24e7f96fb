use Rattle.bidi_base.proofs.Common.{◌-◌, arith}
use Rattle.bidi_explicit.proofs.OpenIsolates.{last-shrunk}
use Rattle.bidi_explicit.proofs.prepare.waiting.Waiting.pop.Goals as goal

pub returns-in-Some : goal.returns-in-Some
returns-in-Some c =
    let last = c.in-Some.last.now in
    grind (arith, last-shrunk c.self.inside.rows.items last (last.times - 1) (omega arith))
