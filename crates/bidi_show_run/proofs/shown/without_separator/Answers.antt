use Rattle.bidi_base.proofs.Common.{arith, nil_from_length, chars-nil, chars}
use Rattle.bidi_text.proofs.StrLemmas.{chars-push}
use Rattle.bidi_show_run.proofs.ShownLemmas.{without_separator-separator, without_separator-other}
use Rattle.bidi_show_run.proofs.shown.without_separator.Goals as goal

pub returns-in-Some : goal.returns-in-Some
returns-in-Some g c = grind (arith, chars-push c.args.text.now c.as_str-front.result.now c.in-Some.c, without_separator-separator (g.D.BidiDataSource.source c.args.data_source.now) (chars c.as_str-front.result.now))

pub returns-in_default : goal.returns-in_default
returns-in_default g c = grind (arith, chars-push c.args.text.now c.as_str-front.result.now c.in-Some.c, without_separator-other (g.D.BidiDataSource.source c.args.data_source.now) (chars c.as_str-front.result.now))

pub returns-in_default-2 : goal.returns-in_default-2
returns-in_default-2 g c = grind (arith, nil_from_length, chars-nil)
