use Rattle.bidi_base.proofs.Common.{arith}
use Rattle.bidi_arguments.proofs.OptionsLemmas.{explain_of-html, explain_of-files, explain_of-line, explain_of-base, explain_of-width}
use Rattle.bidi_arguments.proofs.command.Command.+parse_explain.Goals as goal

pub returns-in-len1-up : goal.returns-in-len1-up
returns-in-len1-up t c = grind (arith, explain_of-html)

pub returns-in-len1-up-2 : goal.returns-in-len1-up-2
returns-in-len1-up-2 t c = grind (arith, explain_of-files)

pub returns-in-len1-up-3 : goal.returns-in-len1-up-3
returns-in-len1-up-3 t c = grind (arith, explain_of-line)

pub returns-in-Some : goal.returns-in-Some
returns-in-Some t c = grind (arith, explain_of-base)

pub returns-in-Some-parse_number : goal.returns-in-Some-parse_number
returns-in-Some-parse_number t c =
    grind (arith, explain_of-width c.args.view c.args.operands c.args.words.now c.option-item.result c.option-item-2.result c.option-item-3.result c.option-item-4.result c.option-item-5.result c.value-item-2.result c.in-Some-parse_number.width)
