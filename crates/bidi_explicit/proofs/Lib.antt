pub mod CharEnds
pub mod CountBelow
mod CountLemmas
mod ExplicitStretches
pub mod ExplicitUnits
pub mod InRuns
mod JoinedSequences
mod KeptRangeLemmas
mod LevelRunLemmas
mod LinkChains
mod LinkPass
pub mod LinkedSequences
pub mod Marks
mod OpenIsolates
pub mod PassOverText
mod RunCutting
mod RunGather
mod RunJoining
mod RunLoop
mod RunMembers
pub mod RunOf
mod RunReading
mod RunRemoved
mod RunUnits
pub mod SeenUnits
mod StackLemmas
pub mod WalkLemmas
pub mod WrittenOver
