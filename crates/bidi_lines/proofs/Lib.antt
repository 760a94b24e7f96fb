pub mod CharRuns
mod DirectionLemmas
mod Distinct
pub mod FoundRuns
mod Gathered
mod Least
pub mod LineInText
pub mod LineLevels
mod LineByLevels
mod LineText
mod LineUnits
mod LineUtf8
pub mod Ordered
pub mod Pieces
mod Reversed
pub mod RunLengths
pub mod RunText
pub mod RunsLemmas
mod ShownLines
pub mod VisualUnits
pub mod StillLine
pub mod StoredLine
mod Stretches
pub mod TextOfLine
mod ReversedUtf8
pub mod Utf16Backwards
pub mod VisualRuns
pub mod WrittenRuns
