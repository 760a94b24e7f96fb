use Rattle.bidi_display.proofs.ClusterPass.{is_cluster_of-simple}
use Rattle.bidi_display.proofs.grouping.cluster_of_char.Goals as goal

pub returns : goal.returns
returns g c options column =
    is_cluster_of-simple options (g.W.ClusterWidth.width_of c.args.widths.now) c.args.at column c.args.c.now c.width_of_char.result c.requires.simple c.width_of_char.ensures
