use Rattle.bidi_base.proofs.Common.{ℕ, arith}
use Rattle.bidi_shown.specs.Plain.{tabbed_line}
use Rattle.bidi_shown.proofs.TabLemmas.{length-spread_values}
use Rattle.bidi_shown.proofs.line.push_tabbed.Goals as goal

pub push_line-requires : goal.push_line-requires
push_line-requires c = grind (arith, length-spread_values {X = ℕ} 0 c.args.chars.now c.args.levels.now)

pub returns : goal.returns
unfolding tabbed_line
returns c = grind arith
