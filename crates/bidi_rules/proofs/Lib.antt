mod CountedUnits
pub mod FirstKept
mod FoldAny
mod Gathered
mod JoinScan
mod JoinWalk
mod KeptRuns
mod NearestLemmas
mod NeutralSteps
pub mod NeutralUnits
pub mod OneDirection
mod PairPlaces
mod PairSteps
mod RowLemmas
mod ResolvedUnits
mod ListedUnitIndexes
mod UnitBrackets
mod WeakMarks
mod WeakPassLemmas
mod WeakText
mod WeakUnits
mod WeakWalkLemmas
