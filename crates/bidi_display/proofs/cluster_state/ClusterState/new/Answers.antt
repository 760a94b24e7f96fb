use Rattle.bidi_base.proofs.Common.{refl}
use Rattle.unicode_segmentation.specs.Grapheme.{ends_in_half_flag, ends_in_linker}
use Rattle.bidi_display.proofs.cluster_state.ClusterState.new.Goals as goal

pub returns : goal.returns
unfolding ends_in_half_flag ends_in_linker
returns c = refl
