-- What a pass over the characters of a line remembers of the displayed ones, nearest first.
use Rattle.std.specs.Prelude.{◌≡◌, ℕ, Bool, true, not, ◌&&◌, ◌||◌, List, [], ◌∷◌, Option, Some, None, map, drop, slice_range}
use Rattle.bidi_base.specs.Classes.{is_nsm}
use Rattle.bidi_display.specs.LineClusters.{begins_cluster, clusters_after, is_boundary_neutral}
use Rattle.bidi_display.specs.declared.options.DisplayOptions.{DisplayOptions}
use Rattle.bidi_display.specs.ClusterState.{is_plain, state_after}
use Rattle.bidi_display.specs.declared.grouping.Joining.{Joining}
use Rattle.bidi_display.specs.declared.line_char.LineChar.{LineChar}
use Rattle.bidi_display.specs.declared.options.Moves.{Moves}
use Rattle.bidi_display.specs.declared.options.Moves.TheVariants.{Characters, Marks, Clusters}

-- the level of the last one that is displayed
abbrev pub last_level : List LineChar → Option ℕ
last_level [] = None
last_level (c ∷ before) = Some c.level

-- the characters that the rules of grapheme clusters have read: none if grapheme clusters do not move
abbrev pub read_for : Moves → List LineChar → List ℕ
read_for Characters before = []
read_for Marks before = []
read_for Clusters before = map (λ c. c.char) before

abbrev pub joining_after : Moves → List LineChar → Joining
joining_after moves before = record {
  moves = moves;
  clusters = state_after (read_for moves before);
  last = last_level before;
}

-- a character is displayed, and does not join a plain character before it, whatever moves and whatever is dropped
abbrev pub is_simple : LineChar → Bool
is_simple c = is_plain c.char && not (is_boundary_neutral c.class || is_nsm c.class)

-- the first one of these characters is simple, or there is none
abbrev pub begins_simple : List LineChar → Bool
begins_simple [] = true
begins_simple (c ∷ rest) = is_simple c

-- the cluster that begins at the displayed character `from` ends at `end`, after these characters are displayed; the
-- next cluster begins there, and the state has read the displayed characters before it
pub record IsCluster (options : DisplayOptions) (chars : List LineChar) (from : ℕ) (before : List LineChar) (end : ℕ)
    (joining : Joining) : Type 0 where
  pub read : List LineChar
  pub cluster : clusters_after options before (drop from chars)
      ≡ slice_range chars from end ∷ clusters_after options read (drop end chars)
  pub begins : begins_cluster options read (drop end chars) ≡ true
  pub reads : joining ≡ joining_after options.moves read
