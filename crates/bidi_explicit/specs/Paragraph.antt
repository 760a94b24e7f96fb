-- A paragraph as the code holds it: what the pass requires and finds there, and how it counts.
use Rattle.std.specs.Prelude.{◌≡◌, ℕ, ◌+◌, Bool, false, List, [], length, map, IsTrue}
use Rattle.std.specs.declared.ops.Range.{Range}
use Rattle.bidi_base.specs.declared.char_data.BidiClass.{BidiClass}
use Rattle.bidi_base.specs.Indexes.{class_at}
use Rattle.bidi_base.specs.Search.{passing, IsFirst}
use Rattle.bidi_base.specs.Texts.{Text, char_index, is_boundary, AreExplicitLevels, IsNextPlace}
use Rattle.bidi_base.specs.Units.{bounds}
use Rattle.bidi_explicit.specs.Control.{is_control}
use Rattle.bidi_explicit.specs.ExplicitStretches.{Paragraph as SeenParagraph, paragraph_of}
use Rattle.bidi_explicit.specs.StepUnit.{count_of, count_to, least_of}
use Rattle.bidi_explicit.specs.declared.explicit.stretches.Paragraph.{Paragraph}

module _ {T C I L : Type 0} {t : _} {c : _} {i : _} {l : _} (paragraph : Paragraph T C I L t c i l) where
  abbrev pub text_of : Text t.encoding
  text_of = t.text paragraph.text

  -- the paragraph as the rules see it
  abbrev pub as_seen : SeenParagraph t.encoding
  as_seen = paragraph_of text_of paragraph.level paragraph.original_classes.now

  -- ---- what the pass requires and finds

  -- there is a level for each code unit, the classes to rewrite are a copy of the stored ones, and there are no runs
  -- yet
  pub record CanFindLevels (level_units : List ℕ) (class_units : List BidiClass) (found : List (Range ℕ)) : Type 0 where
    pub levels : length level_units ≡ length paragraph.original_classes.now
    pub processing : class_units ≡ paragraph.original_classes.now
    pub runs : map bounds found ≡ []

  -- the code units have the explicit levels and the processing classes of their characters, and these are the level
  -- runs
  abbrev pub AreLevelsOf : List ℕ → List BidiClass → List (Range ℕ) → Type 0
  AreLevelsOf level_units class_units found =
      AreExplicitLevels text_of paragraph.level paragraph.original_classes.now level_units class_units (map bounds found)

  -- ---- its code units

  -- a character begins at a code unit, or the text ends there
  abbrev pub IsStart : ℕ → Type 0
  IsStart u = IsTrue (is_boundary text_of u)

  -- where the character that begins at a code unit ends
  abbrev pub IsNextStart : ℕ → ℕ → Type 0
  IsNextStart u next = IsNextPlace text_of u next

  -- the class at a code unit is no control's
  abbrev pub IsPlain : ℕ → Type 0
  IsPlain u = is_control (class_at paragraph.original_classes.now u) ≡ false

  -- the first code unit of a range whose class passes a test, or else the end of the range
  abbrev pub IsFirstPassing : (BidiClass → Bool) → ℕ → ℕ → ℕ → Type 0
  IsFirstPassing test from to u = IsFirst (passing test paragraph.original_classes.now) from to u

  -- ---- counts

  -- how many steps the pass takes at least: one for each character, if it goes from character to character
  abbrev pub least_count : ℕ
  least_count = least_of paragraph.step_unit (length text_of.chars)

  -- how many characters, or how many code units, the paragraph has: the paragraph's step unit says which
  abbrev pub whole_count : ℕ
  whole_count = count_of paragraph.step_unit (length paragraph.original_classes.now) (length text_of.chars)

  -- how many characters are before a code unit
  abbrev pub chars_to : ℕ → ℕ
  chars_to u = char_index text_of u

  -- how many steps it takes at least for what is before a code unit
  abbrev pub least_to : ℕ → ℕ
  least_to u = least_of paragraph.step_unit (chars_to u)

  -- how many characters, or how many code units, are before a code unit: the paragraph's step unit says which
  abbrev pub counted_to : ℕ → ℕ
  counted_to u = count_to paragraph.step_unit text_of u

  -- the count has gone up by one for each character from one index to another
  abbrev pub AreCharsCounted : ℕ → ℕ → ℕ → ℕ → Type 0
  AreCharsCounted from to old new = new + chars_to from ≡ old + chars_to to
