-- The text of a paragraph, and what its passes require of its levels and promise.
use Rattle.std.specs.Prelude.{◌≡◌, ℕ, List, length, map}
use Rattle.bidi_base.specs.Explicit.{explicit_levels, explicit_classes}
use Rattle.bidi_base.specs.Isolates.{stored_classes}
use Rattle.bidi_base.specs.Sequences.{sequences}
use Rattle.bidi_base.specs.Stored.{AreResolved}
use Rattle.bidi_base.specs.Texts.{Text, text_len, per_char, HaveLevel}
use Rattle.bidi_paragraphs.specs.declared.paragraph_levels.ClassifiedParagraph.{ClassifiedParagraph}

module _ {D T C I L : Type 0} {d : _} {t : _} {c : _} {i : _} {l : _} (paragraph : ClassifiedParagraph D T C I L d t c i l) where
  abbrev pub text_of : Text t.encoding
  text_of = t.text paragraph.text

  -- there is one level for each code unit of the paragraph
  abbrev pub IsOneAUnit : List ℕ → Type 0
  IsOneAUnit levels = length levels ≡ text_len text_of

  -- all code units of a character have one level
  abbrev pub HaveCharLevels : List ℕ → Type 0
  HaveCharLevels levels = HaveLevel text_of levels

  -- the levels of the characters that X9 keeps are those of the rules
  abbrev pub AreOfRules : List ℕ → Type 0
  AreOfRules levels =
      let source = d.source paragraph.data_source.now in
      let classes = map source.class_of text_of.chars in
      let stored = stored_classes classes in
      let level = paragraph.level in
      AreResolved classes (map source.bracket_of text_of.chars) (explicit_levels level stored) (explicit_classes level stored)
      (per_char 0 text_of levels) (sequences level stored (explicit_levels level stored))
