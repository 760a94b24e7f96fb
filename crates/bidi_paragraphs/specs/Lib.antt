pub mod ClassSet
pub mod FirstPass
pub mod InText
pub mod Paragraph
pub mod ParagraphFlags
pub mod ParagraphInfo
pub mod KnownLevels
