-- What the accessors of `ParagraphInfo` return.
use Rattle.std.specs.Prelude.{ℕ, List, map}
use Rattle.std.specs.declared.ops.Range.{Range}
use Rattle.bidi_paragraphs.specs.declared.paragraph_info.ParagraphInfo.{ParagraphInfo}

-- `p.range()` and `p.level()`
abbrev pub range_of : ParagraphInfo → Range ℕ
range_of p = p.range

abbrev pub level_of : ParagraphInfo → ℕ
level_of p = p.level

-- where the range of a paragraph begins and ends
abbrev pub ends_of : ParagraphInfo → ℕ × ℕ
ends_of p = (p.range.start, p.range.end)

-- the ranges and the levels of paragraphs
abbrev pub ranges_of : List ParagraphInfo → List (ℕ × ℕ)
ranges_of paragraphs = map ends_of paragraphs

abbrev pub levels_of : List ParagraphInfo → List ℕ
levels_of paragraphs = map level_of paragraphs
