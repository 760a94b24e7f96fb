use Rattle.bidi_base.proofs.Common.{arith, common_steps, chars_past_char}
use Rattle.bidi_shown.proofs.FirstLemmas.{after-other, after-return}
use Rattle.bidi_shown.proofs.first.after_separator.Goals as goal

pub returns-in-Some-eq13-clause-text : goal.returns-in-Some-eq13-clause-text
returns-in-Some-eq13-clause-text g c = grind (arith, common_steps, chars_past_char c.args.text.now, after-return)

pub returns-in-Some-clause-text : goal.returns-in-Some-clause-text
returns-in-Some-clause-text g c = grind (arith, common_steps, chars_past_char c.args.text.now, after-other)
