mod BlockLemmas
pub mod CharsLemmas
mod ClassLemmas
mod IndexedLemmas
pub mod PerCharTests
pub mod StrLemmas
mod Utf16Ends
pub mod Utf16Lemmas
mod WideLemmas
