pub mod ClassText
pub mod IndexedText
pub mod WideText
