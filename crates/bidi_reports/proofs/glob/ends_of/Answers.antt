use Rattle.std.proofs.Common.{arith}
use Rattle.std.proofs.lemmas.Grind.{common_steps}
use Rattle.bidi_reports.proofs.GlobLemmas.{end-accepts}
use Rattle.bidi_reports.proofs.glob.ends_of.Goals as goal

pub returns : goal.returns
returns c = end-accepts c.args.chars.now c.push.new.self.items (grind (arith, common_steps))
