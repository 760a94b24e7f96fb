-- How a rule splits a text into its paragraphs.
pub use Rattle.bidi_base.specs.Paragraphs.{ends_by, ends_after, pieces_by}
