use Rattle.bidi_base.proofs.Common.{arith}
use Rattle.bidi_show_run.proofs.ShownLemmas.{own_part}
use Rattle.bidi_show_run.proofs.shown.own_end.Goals as goal

pub overflow_add-result : goal.overflow_add-result
overflow_add-result g c = grind (arith, own_part (g.D.BidiDataSource.source c.args.data_source.now) c.text.result.now)

pub returns : goal.returns
returns g c = grind (arith, own_part (g.D.BidiDataSource.source c.args.data_source.now) c.text.result.now)
