use Rattle.bidi_base.proofs.Common.{◌∙◌}
use Rattle.bidi_display.proofs.WidthLemmas.{columns-cluster}
use Rattle.bidi_display.proofs.width.ClusterColumnsClusterWidth.width_of_char.Goals as goal

pub returns : goal.returns
returns c = c.columns.ensures ∙ columns-cluster c.args.self.now.wide_ambiguous c.args.c
