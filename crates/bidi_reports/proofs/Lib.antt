pub mod DigitLemmas
mod EntryLemmas
mod GlobLemmas
mod IndexLemmas
mod PartsLemmas
mod PatternLemmas
mod ReportsLemmas
