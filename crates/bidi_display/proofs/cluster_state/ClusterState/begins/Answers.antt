use Rattle.bidi_base.proofs.Common.{ap}
use Rattle.bidi_display.specs.declared.cluster_state.ClusterState.{ClusterState}
use Rattle.bidi_display.proofs.StateLemmas.{begins_by_pair, begins_by_context}
use Rattle.bidi_display.proofs.cluster_state.ClusterState.begins.Goals as goal

pub returns-in-Some : goal.returns-in-Some
returns-in-Some c before after e = begins_by_pair before c.args.c after c.args.self.last c.args.value c.in-Some.is_break (ap (λ (s : ClusterState). s.last) e) c.requires c.in-Some.ensures

pub returns-in-None : goal.returns-in-None
returns-in-None c before after e = begins_by_context before c.args.c after c.args.self.last c.args.value c.joins.result (ap (λ (s : ClusterState). s.last) e) c.requires c.in-None.ensures (c.joins.ensures before e)
