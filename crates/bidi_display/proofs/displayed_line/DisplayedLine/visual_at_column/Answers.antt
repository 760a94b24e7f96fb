use Rattle.std.proofs.Common.{rules}
use Rattle.bidi_display.specs.Shown.{laid_out}
use Rattle.bidi_display.proofs.ColumnLemmas.{left_of_column, cluster_at_column-is, cluster_at_column-none}
use Rattle.bidi_display.proofs.displayed_line.DisplayedLine.visual_at_column.Goals as goal

pub returns-then-visual-clusters-clause-cluster : goal.returns-then-visual-clusters-clause-cluster
returns-then-visual-clusters-clause-cluster c =
    cluster_at_column-is (laid_out c.args.self.now) c.args.column _ c.clusters_left_of-visual.ensures.passed c.clusters_left_of-visual.ensures.next (search rules)

pub returns-then-visual-clusters-clause-left : goal.returns-then-visual-clusters-clause-left
returns-then-visual-clusters-clause-left c =
    left_of_column (laid_out c.args.self.now) c.args.column _ c.clusters_left_of-visual.ensures.passed c.clusters_left_of-visual.ensures.next (search rules)

pub returns-else-visual-clusters-clause-cluster : goal.returns-else-visual-clusters-clause-cluster
returns-else-visual-clusters-clause-cluster c =
    cluster_at_column-none (laid_out c.args.self.now) c.args.column _ c.clusters_left_of-visual.ensures.passed c.clusters_left_of-visual.ensures.next (rw (← c.clusters.ensures) c.if-visual-clusters.false)
