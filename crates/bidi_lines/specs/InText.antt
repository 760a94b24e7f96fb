-- The code units of a line of a text, written from left to right.
use Rattle.std.specs.Prelude.{ℕ, List}
use Rattle.bidi_base.specs.Display.{Run}
use Rattle.bidi_base.specs.Texts.{Encoding, Text}
use Rattle.bidi_lines.specs.LineUnits as list

module _ {e : Encoding} (text : Text e) where
  -- the code units of a level run of a line, from the whole text: a run of an even level unchanged, and a run of an odd
  -- level as its characters in reverse order
  abbrev pub run_units : {X : Type 0} → (ℕ → List X) → List X → ℕ → List ℕ → Run → List X
  run_units encode units from levels = list.run_units e.len_of encode text.chars units from levels

  -- those of the runs of a line from left to right (L2), from the levels of its code units after L1
  abbrev pub visual_units : {X : Type 0} → (ℕ → List X) → List X → ℕ → List ℕ → List X
  visual_units encode units start shown = list.visual_units e.len_of encode text.chars units start shown

  -- the visual runs of a line cut no character
  abbrev pub AreRunsOfChars : ℕ → List ℕ → Type 0
  AreRunsOfChars start shown = list.AreRunsOfChars e.len_of text.chars start shown
