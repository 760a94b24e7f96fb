-- A text with a stored class and a level for each code unit.
use Rattle.std.specs.Prelude.{◌≡◌, ℕ, List}
use Rattle.bidi_base.specs.declared.char_data.BidiClass.{BidiClass}
use Rattle.bidi_base.specs.declared.char_data.BidiClass.TheVariants.{L}
use Rattle.bidi_base.specs.Texts.{Text, per_char, level_run_ranges, HaveClass, HaveLevel}
use Rattle.bidi_explicit.specs.declared.leveled_text.LeveledText.{LeveledText}

module _ {T C I L' : Type 0} {t : _} {c : _} {i : _} {l : _} (leveled : LeveledText T C I L' t c i l) where
  abbrev pub text_of : Text t.encoding
  text_of = t.text leveled.text

  -- the stored class of each character
  abbrev pub classes_of : List BidiClass
  classes_of = per_char L text_of leveled.original_classes.now

  -- the level of each character
  abbrev pub levels_of : List ℕ
  levels_of = per_char 0 text_of leveled.levels.now

  -- the code units of each character have one class and one level
  pub record IsLeveled : Type 0 where
    pub original : HaveClass text_of leveled.original_classes.now
    pub levels : HaveLevel text_of leveled.levels.now

  -- these are its level runs
  abbrev pub AreLevelRuns : List (ℕ × ℕ) → Type 0
  AreLevelRuns runs = runs ≡ level_run_ranges text_of classes_of levels_of
