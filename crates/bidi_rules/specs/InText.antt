-- The definitions of the passes, over a text.
use Rattle.std.specs.Prelude.{ℕ, List}
use Rattle.std.specs.declared.ops.Range.{Range}
use Rattle.bidi_base.specs.declared.brackets.Bracket.{Bracket}
use Rattle.bidi_base.specs.declared.char_data.BidiClass.{BidiClass}
use Rattle.bidi_base.specs.Source.{Source}
use Rattle.bidi_base.specs.Texts.{Encoding, Text}
use Rattle.bidi_explicit.specs.declared.prepare.borrowed.BorrowedSequence.{BorrowedSequence}
use Rattle.bidi_rules.specs.NeutralPass as neutral
use Rattle.bidi_rules.specs.PairPass as pairs
use Rattle.bidi_rules.specs.WeakWalk as weak
use Rattle.bidi_rules.specs.declared.neutral.pairs.Place.{Place}
use Rattle.bidi_rules.specs.declared.neutral.pairs.Row.{Row}

module _ {e : Encoding} (text : Text e) where
  -- ---- W1 to W7

  -- the length of the character that begins at an index, or 1 if none begins there
  abbrev pub len_at : ℕ → ℕ
  len_at = weak.len_at e.len_of text.chars

  -- how many characters a sequence has
  abbrev pub char_count_of : BorrowedSequence → ℕ
  char_count_of sequence = weak.char_count_of e.len_of text.chars sequence

  abbrev pub CanResolveWeak : BorrowedSequence → List BidiClass → Type 0
  CanResolveWeak sequence old = weak.CanResolveWeak e.len_of text.chars sequence old

  abbrev pub IsWeakResolved : BorrowedSequence → List BidiClass → List BidiClass → Type 0
  IsWeakResolved sequence old new = weak.IsWeakResolved e.len_of text.chars sequence old new

  -- ---- N0

  -- the brackets of some characters that count, each with the index of its first code unit
  abbrev pub placed_brackets : Source → List BidiClass → List ℕ → List Bracket
  placed_brackets source classes indexes = neutral.placed_brackets e.len_of text.chars source classes indexes

  -- pairs of unit indexes, from pairs of indexes in a list of characters
  abbrev pub at_unit_indexes : List ℕ → List (ℕ × ℕ) → List (ℕ × ℕ)
  at_unit_indexes ks indexes = pairs.at_unit_indexes e.len_of text.chars ks indexes

  abbrev pub IsReady : List (Range ℕ) → BidiClass → List BidiClass → Type 0
  IsReady runs sos old = neutral.IsReady e.len_of text.chars runs sos old

  abbrev pub IsPaired : List BidiClass → List BidiClass → List BidiClass → List (Range ℕ) → BidiClass → BidiClass → List (ℕ × ℕ) → Type 0
  IsPaired original_classes old mid runs embedding sos found = neutral.IsPaired e.len_of text.chars original_classes old mid runs embedding sos found

  abbrev pub IsMarksEnd : List (ℕ × ℕ) → List BidiClass → List BidiClass → ℕ → ℕ → Type 0
  IsMarksEnd runs original_classes classes from end = pairs.IsMarksEnd e.len_of text.chars runs original_classes classes from end

  abbrev pub IsPlace : List (ℕ × ℕ) → Place → Type 0
  IsPlace runs bracket = pairs.IsPlace e.len_of text.chars runs bracket

  abbrev pub IsBracket : List (ℕ × ℕ) → List BidiClass → List BidiClass → Place → Type 0
  IsBracket runs original_classes classes bracket = pairs.IsBracket e.len_of text.chars runs original_classes classes bracket

  abbrev pub IsBracketAfter : List (ℕ × ℕ) → List BidiClass → List BidiClass → Row → Place → Type 0
  IsBracketAfter runs original_classes classes row bracket = pairs.IsBracketAfter e.len_of text.chars runs original_classes classes row bracket

  abbrev pub IsSetUpTo : List (ℕ × ℕ) → List BidiClass → BidiClass → ℕ → ℕ → ℕ → List BidiClass → List BidiClass → Type 0
  IsSetUpTo runs original_classes d bracket k end old new = pairs.IsSetUpTo e.len_of text.chars runs original_classes d bracket k end old new

  abbrev pub IsSet : List (ℕ × ℕ) → List BidiClass → BidiClass → ℕ → ℕ → List BidiClass → List BidiClass → Type 0
  IsSet runs original_classes d bracket k old new = pairs.IsSet e.len_of text.chars runs original_classes d bracket k old new

  abbrev pub IsRow : List (ℕ × ℕ) → List BidiClass → List BidiClass → Row → Type 0
  IsRow runs original_classes classes row = pairs.IsRow e.len_of text.chars runs original_classes classes row
