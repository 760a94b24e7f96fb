-- What the accessors of `Paragraph` return.
use Rattle.unicode_bidi.specs.declared.info.BidiInfo.{BidiInfo}
use Rattle.unicode_bidi.specs.declared.paragraph.Paragraph.{Paragraph}
use Rattle.bidi_paragraphs.specs.declared.paragraph_info.ParagraphInfo.{ParagraphInfo}

module _ {T C I L : Type 0} {t : _} {c : _} {i : _} {l : _} (paragraph : Paragraph T C I L t c i l) where
  -- `p.info()` and `p.para()`
  abbrev pub info_of : BidiInfo T C I L t c i l
  info_of = paragraph.info.now

  abbrev pub para_of : ParagraphInfo
  para_of = paragraph.para.now
