use Rattle.bidi_base.proofs.Common.{arith, common_steps, chars_past_char}
use Rattle.bidi_shown.proofs.first.after_line_feed.Goals as goal

pub returns-in-Some-eq10-clause-text : goal.returns-in-Some-eq10-clause-text
returns-in-Some-eq10-clause-text g c = grind (arith, common_steps, chars_past_char c.args.text.now)
