mod BoundaryLemmas
mod BreakLemmas
mod CaretLaws
mod ClusterCuts
mod ClusterLaws
mod ClusterPass
mod ClusterRanges
mod ClusterWalk
mod ClustersLemmas
pub mod ColumnLemmas
mod CoverLemmas
mod EdgesLemmas
pub mod EvenLineLemmas
mod Extending
mod GroupingLemmas
mod LineCharsLemmas
mod LineClusterLaws
mod LineCuts
mod LineLaws
mod LineLengths
mod LineRuns
mod MapLaws
mod MirrorLemmas
mod SelectionLemmas
mod ShownPart
mod StateLemmas
mod TableFacts
mod TextDisplayLemmas
pub mod TextLemmas
mod WholeLine
mod WidthLemmas
