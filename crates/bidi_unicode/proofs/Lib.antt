mod LowClasses
mod PlaneClasses
mod RowsLemmas
mod TableLaws
