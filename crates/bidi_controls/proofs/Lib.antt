mod ClosedOpeners
mod ControlBytesLemmas
mod ControlChars
mod CutLemmas
mod DisplayedLemmas
mod FaultLemmas
pub mod FileLinesLemmas
mod FindingsLemmas
mod FoundLemmas
pub mod IndexLemmas
mod LineLevels
mod LinesLemmas
mod LinesWithoutControls
mod LossyLemmas
mod OpenersLemmas
mod UnmatchedPass
