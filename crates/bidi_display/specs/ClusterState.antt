-- What a pass over characters remembers of those that it has read, nearest first.
use Rattle.std.specs.Prelude.{ℕ, Bool, false, ◌&&◌, ◌||◌, if◌then◌else◌, List, [], ◌∷◌, map}
use Rattle.std.specs.Int.{is_in_range}
use Rattle.ucd_breaks.specs.GraphemeClusterBreak.{grapheme_cluster_break}
use Rattle.ucd_breaks.specs.declared.GraphemeClusterBreak.{GraphemeClusterBreak}
use Rattle.ucd_breaks.specs.declared.GraphemeClusterBreak.TheVariants.{Control}
use Rattle.ucd_derived.specs.IndicConjunctBreak.{indic_conjunct_break}
use Rattle.unicode_segmentation.specs.Grapheme.{is_extend, is_zwj, ends_in_linker, ends_in_pictograph, ends_in_half_flag}
use Rattle.bidi_display.specs.declared.cluster_state.ClusterState.{ClusterState}

-- the value of the last character; at the start that of a control, after which a cluster begins too
abbrev pub last_value : List ℕ → GraphemeClusterBreak
last_value [] = Control
last_value (c ∷ before) = grapheme_cluster_break c

-- the last character that does not have the value Extend, or U+0000 if there is none
abbrev pub base_of : List ℕ → ℕ
base_of [] = 0
base_of (c ∷ before) = if is_extend (grapheme_cluster_break c) then base_of before else c

-- the characters end with a pictograph, characters with the value Extend, and a ZWJ
abbrev pub ends_in_pictograph_zwj : List ℕ → Bool
ends_in_pictograph_zwj [] = false
ends_in_pictograph_zwj (c ∷ before) = is_zwj (grapheme_cluster_break c) && ends_in_pictograph before

-- the state after these characters
abbrev pub state_after : List ℕ → ClusterState
state_after before = record {
  last = last_value before;
  base = base_of before;
  after_linker = ends_in_linker (map indic_conjunct_break before);
  after_pictograph_zwj = ends_in_pictograph_zwj before;
  after_half_flag = ends_in_half_flag before;
}

-- a frequent character that joins the character before it only if that is a prepended mark (GB9b): printable ASCII, letters
-- of Latin, Greek, Cyrillic, Hebrew and Arabic, and ideographs
abbrev pub is_plain : ℕ → Bool
is_plain c =
    is_in_range 0x20 0x7E c || is_in_range 0xC0 0x2FF c || is_in_range 0x370 0x482 c || is_in_range 0x5D0 0x5EA c
    || is_in_range 0x620 0x64A c || is_in_range 0x4E00 0x9FFF c
