use Rattle.bidi_base.proofs.Common.{arith}
use Rattle.bidi_arguments.proofs.OptionsLemmas.{shown_words-plain, shown_words-value}
use Rattle.bidi_arguments.proofs.command.Command.+parse_show.Goals as goal

pub returns-then-eq : goal.returns-then-eq
returns-then-eq t c = grind (arith, shown_words-plain c.args.view c.args.words.now c.first-item.result)

pub returns-in-Ok : goal.returns-in-Ok
returns-in-Ok t c = grind (arith, shown_words-value c.args.view c.args.words.now c.first-item.result)
