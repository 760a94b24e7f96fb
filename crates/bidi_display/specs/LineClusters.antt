-- The clusters of a line: which characters are displayed, which of them L2 moves together, and the level of a cluster.
use Rattle.std.specs.Prelude.{ℕ, Bool, true, false, not, ◌&&◌, ◌||◌, ◌==◌, if◌then◌else◌, List, [], ◌∷◌, map, find, filter, Some, None, Option}
use Rattle.std.specs.List.{onto_first}
use Rattle.std.specs.Int.{is_in_range}
use Rattle.unicode_segmentation.specs.Grapheme.{is_grapheme_break}
use Rattle.bidi_base.specs.declared.char_data.BidiClass.{BidiClass}
use Rattle.bidi_base.specs.declared.char_data.BidiClass.TheVariants.{BN}
use Rattle.bidi_base.specs.Classes.{is_nsm, is_kept}
use Rattle.bidi_display.specs.declared.line_char.LineChar.{LineChar}
use Rattle.bidi_display.specs.declared.options.DisplayOptions.{DisplayOptions}
use Rattle.bidi_display.specs.declared.options.Dropped.{Dropped}
use Rattle.bidi_display.specs.declared.options.Dropped.TheVariants.{Nothing, Controls, ControlsAndBoundaryNeutrals}
use Rattle.bidi_display.specs.declared.options.Moves.{Moves}
use Rattle.bidi_display.specs.declared.options.Moves.TheVariants.{Characters, Marks, Clusters}

-- one of the twelve direction controls of UAX #9
abbrev pub is_direction_control : ℕ → Bool
is_direction_control c = c == 0x061C || is_in_range 0x200E 0x200F c || is_in_range 0x202A 0x202E c || is_in_range 0x2066 0x2069 c

abbrev pub is_boundary_neutral : BidiClass → Bool
is_boundary_neutral BN = true
is_boundary_neutral _ = false

-- a character is not displayed
abbrev pub is_dropped : Dropped → LineChar → Bool
is_dropped Nothing c = false
is_dropped Controls c = is_direction_control c.char
is_dropped ControlsAndBoundaryNeutrals c = is_direction_control c.char || is_boundary_neutral c.class

-- a displayed character joins the cluster of those that are displayed before it, nearest first
abbrev pub joins : Moves → List LineChar → LineChar → Bool
joins Characters before c = false
joins Marks [] c = false
joins Marks (b ∷ before) c = is_nsm c.class && c.level == b.level
joins Clusters before c = not (is_grapheme_break true (map (λ b. b.char) before) (c.char ∷ []))

-- the displayed characters before the next one, nearest first
abbrev pub displayed_before : Dropped → List LineChar → LineChar → List LineChar
displayed_before dropped before c = if is_dropped dropped c then before else c ∷ before

module _ (options : DisplayOptions) where
  -- the first displayed one of these characters begins a cluster, or there is none. So a character that is dropped is
  -- in a cluster if displayed characters of the cluster are on both of its sides, and by itself if not
  abbrev pub begins_cluster : List LineChar → List LineChar → Bool
  begins_cluster before [] = true
  begins_cluster before (c ∷ cs) =
      if is_dropped options.dropped c then begins_cluster before cs else not (joins options.moves before c)

  -- the clusters of these characters, if a cluster begins at the first one
  abbrev pub clusters_after : List LineChar → List LineChar → List (List LineChar)
  clusters_after before [] = []
  clusters_after before (c ∷ cs) =
      let read = displayed_before options.dropped before c in
      if begins_cluster read cs then (c ∷ []) ∷ clusters_after read cs else onto_first c (clusters_after read cs)

  -- the clusters of a line
  unfoldable pub line_clusters : List LineChar → List (List LineChar)
  line_clusters chars = clusters_after [] chars

  -- the characters of a cluster that are displayed
  abbrev pub displayed_chars : List LineChar → List LineChar
  displayed_chars cluster = filter (λ c. not (is_dropped options.dropped c)) cluster

  -- the first displayed character that X9 keeps
  abbrev pub level_char : List LineChar → Option LineChar
  level_char cluster = find (λ c. is_kept c.class) (displayed_chars cluster)

  -- its level, or else that of the first character
  abbrev pub or_first_level : Option LineChar → List LineChar → ℕ
  or_first_level (Some c) cluster = c.level
  or_first_level None [] = 0
  or_first_level None (c ∷ cs) = c.level

  -- the level of a cluster
  abbrev pub cluster_level : List LineChar → ℕ
  cluster_level cluster = or_first_level (level_char cluster) cluster
