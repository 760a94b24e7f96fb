-- What the accessors of `ParagraphInfo` return.
pub use Rattle.bidi_paragraphs.specs.ParagraphInfo.{range_of, level_of, ranges_of, levels_of}
