pub mod AloneLemmas
mod BaseLaws
mod BaseLemmas
pub mod BasedParagraphs
pub mod ContentLemmas
mod DecidingSteps
mod FoundLaws
mod LogicalRuns
mod ParagraphChanges
mod ParagraphSearch
pub mod ParagraphUnits
mod RunsOfLine
pub mod SearchLemmas
mod StoredOrder
mod UnitChanges
pub mod WholeText
