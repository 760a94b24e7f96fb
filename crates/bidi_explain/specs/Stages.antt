-- What the rules make of a paragraph, stage by stage.
use Rattle.std.specs.Prelude.{◌≡◌, ℕ, ◌<◌, ◌≤◌, true, List, [], ◌∷◌, length, map, zip, flat_map, replicate, slice_set, All, Option, Some, None}
use Rattle.std.specs.List.{list_all}
use Rattle.bidi_base.specs.declared.char_data.BidiClass.{BidiClass}
use Rattle.bidi_base.specs.declared.char_data.BidiClass.TheVariants.{L}
use Rattle.bidi_base.specs.declared.data_source.BidiMatchedOpeningBracket.{BidiMatchedOpeningBracket}
use Rattle.bidi_base.specs.Classes.{is_kept, is_l_or_r}
use Rattle.bidi_base.specs.Explicit.{explicit_levels, explicit_classes}
use Rattle.bidi_base.specs.Isolates.{paragraph_level, stored_classes}
use Rattle.bidi_base.specs.Layout.{visual_indexes}
use Rattle.bidi_base.specs.Line.{levels_of_line}
use Rattle.bidi_base.specs.Neutral.{neutral_classes}
use Rattle.bidi_base.specs.Order.{visual_order}
use Rattle.bidi_base.specs.Indexes.{at_indexes, first_or}
use Rattle.bidi_base.specs.Sequences.{RunSequence, level_at, sequences}
use Rattle.bidi_base.specs.Source.{Source}
use Rattle.bidi_base.specs.Stored.{stored_levels}
use Rattle.bidi_base.specs.Weak.{weak_classes}
use Rattle.bidi_explain.specs.declared.stages.Characters.{Characters}
use Rattle.bidi_explain.specs.declared.stages.Stages.{Stages}

-- the classes of a sequence after W7, from the classes under overrides of the paragraph
unfoldable pub weak_in : List BidiClass → RunSequence → List BidiClass
weak_in classes s = weak_classes s.sos (at_indexes L classes s.places)

-- those after N2, from the classes and the brackets of the characters, and their explicit levels and classes
unfoldable pub neutral_in : List BidiClass → List (Option BidiMatchedOpeningBracket) → List ℕ → List BidiClass
    → RunSequence → List BidiClass
neutral_in source_classes brackets levels classes s =
    neutral_classes (level_at levels (first_or 0 s.places)) s.sos s.eos (at_indexes L source_classes s.places)
    (at_indexes None brackets s.places) (weak_in classes s)

-- there is one class for each character of a sequence
abbrev pub HasOneEach : RunSequence → List BidiClass → Type 0
HasOneEach s classes = length classes ≡ length s.places

-- a row in which entries are written to their indexes
abbrev pub written : List (Option BidiClass) → List (ℕ × BidiClass) → List (Option BidiClass)
written row [] = row
written row (e ∷ entries) = written (slice_set row e.0 (Some e.1)) entries

-- the row that has what sequences give their characters, and nothing for what X9 removes
unfoldable pub row_of : (RunSequence → List BidiClass) → ℕ → List RunSequence → List (Option BidiClass)
row_of values n seqs = written (replicate n None) (flat_map (λ s. zip s.places (values s)) seqs)

-- a sequence to which W1 to N2 can be applied
pub record CanResolve (source_classes : List BidiClass) (brackets : List (Option BidiMatchedOpeningBracket))
    (classes : List BidiClass) (levels : List ℕ) (s : RunSequence) : Type 0 where
  pub sources : length source_classes ≡ length classes
  pub bracketed : length brackets ≡ length classes
  pub leveled : length levels ≡ length classes
  pub some : 0 < length s.places
  pub within : All (λ p. p < length classes) s.places
  pub sos : is_l_or_r s.sos ≡ true
  pub eos : is_l_or_r s.eos ≡ true
  pub kept : list_all is_kept (at_indexes L classes s.places) ≡ true
  pub source_kept : list_all is_kept (at_indexes L source_classes s.places) ≡ true
  pub level : level_at levels (first_or 0 s.places) ≤ 125

-- one of these characters
abbrev pub CanResolveIn : Characters → RunSequence → Type 0
CanResolveIn characters s =
    CanResolve characters.source.now characters.brackets.now characters.classes.now characters.levels.now s

-- ---- the stages of a paragraph

-- from its characters, its level, and the stored levels
module _ (source : Source) (chars : List ℕ) (para_level : ℕ) where
  abbrev pub source_classes : List BidiClass
  source_classes = map source.class_of chars

  abbrev pub own_explicit_levels : List ℕ
  own_explicit_levels = explicit_levels para_level (stored_classes source_classes)

  abbrev pub own_explicit_classes : List BidiClass
  own_explicit_classes = explicit_classes para_level (stored_classes source_classes)

  abbrev pub own_sequences : List RunSequence
  own_sequences = sequences para_level (stored_classes source_classes) own_explicit_levels

  -- the levels after L1, if the paragraph is one line
  abbrev pub own_line_levels : List ℕ → List ℕ
  own_line_levels levels = levels_of_line para_level (stored_classes source_classes) levels 0 (length chars)

  pub record StagesFrom (stored : List ℕ) (s : Stages) : Type 0 where
    pub level : s.level ≡ para_level
    pub classes : s.classes.items ≡ source_classes
    pub explicit_levels : s.explicit.levels ≡ own_explicit_levels
    pub explicit_classes : s.explicit.classes ≡ own_explicit_classes
    pub sequences : s.sequences.items ≡ own_sequences
    pub weak : s.weak.items ≡ row_of (weak_in own_explicit_classes) (length chars) own_sequences
    pub neutral : s.neutral.items
        ≡ row_of (neutral_in source_classes (map source.bracket_of chars) own_explicit_levels own_explicit_classes)
        (length chars) own_sequences
    pub levels : s.levels.items ≡ stored
    pub line_levels : s.line_levels.items ≡ own_line_levels stored
    pub order : s.order.items ≡ visual_order (own_line_levels stored)
    pub places : s.places.items ≡ visual_indexes (own_line_levels stored)

-- from its characters and the base level: the paragraph has its own level (P2, P3), and its stored levels
abbrev pub AreStages : Source → Option ℕ → List ℕ → Stages → Type 0
AreStages source base_level chars s =
    StagesFrom source chars (paragraph_level base_level (map source.class_of chars)) (stored_levels source base_level chars) s
