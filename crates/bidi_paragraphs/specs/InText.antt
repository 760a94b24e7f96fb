-- What the readers of a text require and leave.
use Rattle.std.specs.Prelude.{ℕ, Bool, List, Option}
use Rattle.bidi_base.specs.declared.char_data.BidiClass.{BidiClass}
use Rattle.bidi_base.specs.Source.{Source}
use Rattle.bidi_base.specs.Texts.{Encoding, Text}
use Rattle.bidi_paragraphs.specs.FirstPass as list
use Rattle.bidi_paragraphs.specs.declared.class_set.ClassSet.{ClassSet}
use Rattle.bidi_paragraphs.specs.declared.first_pass.progress.Progress.{Progress}
use Rattle.bidi_paragraphs.specs.declared.first_pass.stop.Stop.{Stop}

module _ {e : Encoding} (text : Text e) where
  -- the characters from a boundary on
  abbrev pub ahead : ℕ → List ℕ
  ahead u = list.ahead e.len_of text.chars u

  abbrev pub CanRead : ℕ → List BidiClass → Type 0
  CanRead from classes = list.CanRead e.len_of text.chars from classes

  abbrev pub CanSeek : ClassSet → Progress → List BidiClass → Type 0
  CanSeek stop_set from classes = list.CanSeek e.len_of text.chars stop_set from classes

  abbrev pub IsReadOn : Source → (BidiClass → Bool) → Progress → Option Stop → Progress → List BidiClass → List BidiClass → Type 0
  IsReadOn source stop_classes from result to old new = list.IsReadOn source e.len_of text.chars stop_classes from result to old new

  abbrev pub HasReadSome : Source → (BidiClass → Bool) → Progress → Option Stop → Progress → List BidiClass → List BidiClass → Type 0
  HasReadSome source stop_classes from result to old new = list.HasReadSome source e.len_of text.chars stop_classes from result to old new
