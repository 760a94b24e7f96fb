use Rattle.bidi_display.proofs.StateLemmas.{state_after-plain}
use Rattle.bidi_display.proofs.cluster_state.ClusterState.after_plain.Goals as goal

pub returns : goal.returns
returns c before = state_after-plain before c.args.c c.new.result c.requires c.new.ensures
