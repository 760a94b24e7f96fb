pub mod BracketRules
pub mod BracketSearch
mod BracketsLemmas
pub mod ChainLemmas
pub mod Common
mod Examples
mod RunExamples
pub mod GivesLemmas
pub mod LevelsLemmas
pub mod Lists
pub mod NestedPairs
mod OpeningSearch
pub mod PairsLemmas
pub mod PerUnit
pub mod UnitIndexLemmas
pub mod PlacesLemmas
mod SearchLanes
mod TableLemmas
pub mod TextLemmas
pub mod TextUnitIndexes
pub mod UnitsLemmas
pub mod UpdatedLemmas
