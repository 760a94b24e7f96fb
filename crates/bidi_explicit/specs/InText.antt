-- The sequences and the isolate controls of a text.
use Rattle.std.specs.Prelude.{ℕ, List, Option}
use Rattle.bidi_base.specs.declared.char_data.BidiClass.{BidiClass}
use Rattle.bidi_base.specs.Sequences.{RunSequence}
use Rattle.bidi_base.specs.Texts.{Encoding, Text}
use Rattle.bidi_explicit.specs.Joining as list
use Rattle.bidi_explicit.specs.Joining.{JoinedRuns}
use Rattle.bidi_explicit.specs.Links as linked
use Rattle.bidi_explicit.specs.RunSequence as copied
use Rattle.bidi_explicit.specs.declared.prepare.sequence.IsolatingRunSequence.{IsolatingRunSequence}

module _ {e : Encoding} (text : Text e) where
  abbrev pub read_units : List BidiClass → ℕ → ℕ → ℕ → ℕ → List (Option ℕ) → List (Option ℕ)
  read_units classes kept_end s start end waits = list.read_units e.len_of text.chars classes kept_end s start end waits

  abbrev pub characters_of : List BidiClass → JoinedRuns → RunSequence
  characters_of classes j = list.characters_of e.len_of text.chars classes j

  abbrev pub sequences_of : List BidiClass → List JoinedRuns → List RunSequence
  sequences_of classes out = linked.sequences_of e.len_of text.chars classes out

  abbrev pub sequences_in : List BidiClass → List IsolatingRunSequence → List RunSequence
  sequences_in classes out = copied.sequences_in e.len_of text.chars classes out
