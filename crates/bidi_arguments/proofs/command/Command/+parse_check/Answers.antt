use Rattle.bidi_base.proofs.Common.{arith}
use Rattle.bidi_arguments.proofs.OptionsLemmas.{words_of-flag, words_of-value}
use Rattle.bidi_arguments.proofs.command.Command.+parse_check.Goals as goal

pub returns-in-Some : goal.returns-in-Some
returns-in-Some t c = grind (arith, words_of-flag c.args.options c.args.words.now c.first-item.result)

pub returns-in-Ok : goal.returns-in-Ok
returns-in-Ok t c = grind (arith, words_of-value c.args.options c.args.words.now c.first-item.result)
