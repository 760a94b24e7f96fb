-- The neutrals of a sequence, over the list of its characters: the brackets that the pass reads, and what N0 leaves.
use Rattle.std.specs.Prelude.{◌≡◌, ℕ, Bool, true, false, List, [], ◌∷◌, get_or, map, flat_map, filter}
use Rattle.std.specs.List.{list_all}
use Rattle.std.specs.Option.{option_map_or}
use Rattle.std.specs.declared.ops.Range.{Range}
use Rattle.bidi_base.specs.declared.char_data.BidiClass.{BidiClass}
use Rattle.bidi_base.specs.declared.char_data.BidiClass.TheVariants.{L, R, EN, AN}
use Rattle.bidi_base.specs.Classes.{is_l_or_r, is_kept_in_place, is_weak_resolved}
use Rattle.bidi_base.specs.Indexes.{at_indexes, between, class_at}
use Rattle.bidi_base.specs.Source.{Source}
use Rattle.bidi_base.specs.Text.{char_at, unit_index, IsPerChar}
use Rattle.bidi_base.specs.Units.{bounds, are_ordered, kept_in_place, AreLines}
use Rattle.bidi_base.specs.Brackets.{bracket_pairs, counted_bracket}
use Rattle.bidi_base.specs.Neutral.{n0}
use Rattle.bidi_base.specs.declared.brackets.Bracket.{Bracket}
use Rattle.bidi_rules.specs.declared.neutral.NeutralResolver.{NeutralResolver}
use Rattle.bidi_base.specs.FoundBrackets.{brackets_from}
use Rattle.bidi_base.specs.PairSearch.{HasRead}
use Rattle.bidi_explicit.specs.SequenceUnits.{is_seen}

-- of these character indexes, those that the pass treats as kept; `classes` has one for each code unit
abbrev pub kept_among : (ℕ → ℕ) → List ℕ → List BidiClass → List ℕ → List ℕ
kept_among len_of chars classes indexes = filter (λ k. is_kept_in_place (class_at classes (unit_index len_of chars k))) indexes

-- the values at these character indexes; `units` has one for each code unit
abbrev pub values_of : {X : Type 0} → X → (ℕ → ℕ) → List ℕ → List X → List ℕ → List X
values_of d len_of chars units indexes = at_indexes d units (map (unit_index len_of chars) indexes)

-- the bracket at a character index, if it counts, with the index of its first code unit
abbrev pub placed_bracket : (ℕ → ℕ) → List ℕ → Source → List BidiClass → ℕ → List Bracket
placed_bracket len_of chars source classes k =
    brackets_from (unit_index len_of chars k) (counted_bracket (class_at classes (unit_index len_of chars k))
    (source.bracket_of (get_or chars k 0))
    ∷ [])

-- the brackets at these character indexes
abbrev pub placed_brackets : (ℕ → ℕ) → List ℕ → Source → List BidiClass → List ℕ → List Bracket
placed_brackets len_of chars source classes indexes = flat_map (placed_bracket len_of chars source classes) indexes

-- the bracket that begins at a code unit, if one does and it counts
abbrev pub unit_bracket : (ℕ → ℕ) → List ℕ → Source → List BidiClass → ℕ → List Bracket
unit_bracket len_of chars source classes u =
    option_map_or (λ e. brackets_from u (counted_bracket (class_at classes u) (source.bracket_of e.0) ∷ []))
    (char_at len_of chars u) []

-- the brackets that begin at the code units from `low` up to `high`
abbrev pub unit_brackets : (ℕ → ℕ) → List ℕ → Source → List BidiClass → ℕ → ℕ → List Bracket
unit_brackets len_of chars source classes low high = flat_map (unit_bracket len_of chars source classes) (between low high)

-- a resolver that has gathered nothing
pub record HasGatheredNothing (r : NeutralResolver) : Type 0 where
  pub read : HasRead r.search []

-- a number, or the direction other than this one
abbrev pub turns_from : BidiClass → BidiClass → Bool
turns_from L R = true
turns_from L EN = true
turns_from L AN = true
turns_from L _ = false
turns_from _ L = true
turns_from _ EN = true
turns_from _ AN = true
turns_from _ _ = false

-- what N0 requires of the runs, of sos and of the classes
pub record IsReady (len_of : ℕ → ℕ) (chars : List ℕ) (runs : List (Range ℕ)) (sos : BidiClass) (old : List BidiClass) : Type 0 where
  pub ordered : are_ordered (map bounds runs) ≡ true
  pub are_lines : AreLines len_of chars (map bounds runs)
  pub per_char : IsPerChar len_of chars old
  pub side : is_l_or_r sos ≡ true
  pub resolved : list_all is_weak_resolved (values_of L len_of chars old (kept_in_place len_of chars old (map bounds runs))) ≡ true

-- N0 is done for these pairs: the characters have the classes of the rule, and code units outside the sequence or with
-- BN are unchanged
pub record IsPaired (len_of : ℕ → ℕ) (chars : List ℕ) (original_classes old mid : List BidiClass) (runs : List (Range ℕ))
    (e sos : BidiClass) (pairs : List (ℕ × ℕ)) : Type 0 where
  pub paired : let read = kept_in_place len_of chars old (map bounds runs) in
      values_of L len_of chars mid read
      ≡ n0 e sos (values_of L len_of chars original_classes read) pairs (values_of L len_of chars old read)
  pub kept : (u : ℕ) → is_kept_in_place (class_at mid u) ≡ is_kept_in_place (class_at old u)
  pub others : (u : ℕ) → is_seen (map bounds runs) old u ≡ false → class_at mid u ≡ class_at old u
  pub per_char : IsPerChar len_of chars mid

-- the bracket pairs of the characters in some runs
abbrev pub pairs_in : (ℕ → ℕ) → List ℕ → Source → List BidiClass → List (Range ℕ) → List (ℕ × ℕ)
pairs_in len_of chars source classes runs =
    let read = kept_in_place len_of chars classes (map bounds runs) in
    bracket_pairs (values_of L len_of chars classes read) (map source.bracket_of (at_indexes 0 chars read))
