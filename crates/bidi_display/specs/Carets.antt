-- Carets, clicks and selections in a displayed line.
use Rattle.std.specs.Prelude.{ℕ, ◌+◌, ◌*◌, nat_le, nat_lt, zero, suc, Bool, false, ◌==◌, ◌&&◌, if◌then◌else◌, List, [], ◌∷◌, length, filter, find, map, Option, Some, None, get_or, slice_index, take_while, max, min, ◌<◌, IfSome}
use Rattle.bidi_base.specs.Display.{Run}
use Rattle.bidi_base.specs.Indexes.{indexes}
use Rattle.bidi_base.specs.Levels.{is_odd}
use Rattle.bidi_display.specs.declared.carets.Affinity.{Affinity}
use Rattle.bidi_display.specs.declared.carets.Affinity.TheVariants.{Before, After}
use Rattle.bidi_display.specs.declared.carets.Caret.{Caret}
use Rattle.bidi_display.specs.declared.carets.Side.{Side}
use Rattle.bidi_display.specs.declared.carets.Side.TheVariants.{Left, Right}
use Rattle.bidi_display.specs.declared.carets.Position.{Position}
use Rattle.bidi_display.specs.declared.line_cluster.LineCluster.{LineCluster}
use Rattle.bidi_display.specs.DisplayedLine.{cluster_order, left_edge, right_edge, line_width, starts, ends}

-- the column of the caret at a position
abbrev pub column_of : Affinity → Caret → ℕ
column_of Before caret = caret.before
column_of After caret = caret.after

-- how many half columns are to the left of a half of a column
abbrev pub halves_before : ℕ → Side → ℕ
halves_before column Left = 2 * column
halves_before column Right = 2 * column + 1

-- some code unit of the cluster is in a range
abbrev pub is_selected : ℕ → ℕ → LineCluster → Bool
is_selected start end c = nat_lt (max c.start start) (min c.end end)

-- a range of columns, if it is not empty
abbrev pub some_columns : Run → List Run
some_columns r = if nat_lt r.0 r.1 then r ∷ [] else []

-- a range of columns before others, all from left to right: joined with the next one if they touch
abbrev pub before_columns : Run → List Run → List Run
before_columns r [] = r ∷ []
before_columns r (s ∷ rs) = if r.1 == s.0 then (r.0, s.1) ∷ rs else r ∷ s ∷ rs

-- ranges of columns from left to right: without the empty ones, and joined where they touch
abbrev pub joined_columns : List Run → List Run
joined_columns [] = []
joined_columns (r ∷ rs) = if r.0 == r.1 then joined_columns rs else before_columns r (joined_columns rs)

-- a line: its code units, the level of its paragraph, and its clusters in the order of the text
pub record LaidOutLine : Type 0 where
  pub start : ℕ
  pub end : ℕ
  pub para_level : ℕ
  pub clusters : List LineCluster

module _ (line : LaidOutLine) where
  -- the level of the k-th cluster
  abbrev pub level_at : ℕ → ℕ
  level_at k = get_or (map (λ c. c.level) line.clusters) k 0

  -- the column before the k-th cluster in its direction, and the one after it
  abbrev pub column_before : ℕ → ℕ
  column_before k = if is_odd (level_at k) then right_edge line.clusters k else left_edge line.clusters k

  abbrev pub column_after : ℕ → ℕ
  column_after k = if is_odd (level_at k) then left_edge line.clusters k else right_edge line.clusters k

  -- the columns where the line starts and ends
  abbrev pub start_column : ℕ
  start_column = if is_odd line.para_level then line_width line.clusters else 0

  abbrev pub end_column : ℕ
  end_column = if is_odd line.para_level then 0 else line_width line.clusters

  -- at the boundary with k clusters before it: the column after the cluster before the boundary
  abbrev pub before_boundary : ℕ → ℕ
  before_boundary zero = start_column
  before_boundary (suc k) = column_after k

  -- and the column before the cluster after it
  abbrev pub after_boundary : ℕ → ℕ
  after_boundary k = if k == length line.clusters then end_column else column_before k

  abbrev pub caret_at : ℕ → Caret
  caret_at k = record { before = before_boundary k; after = after_boundary k }

  -- how many clusters begin before a code unit
  abbrev pub clusters_before : ℕ → ℕ
  clusters_before unit = length (take_while (λ c. nat_lt c.start unit) line.clusters)

  -- the code unit at a boundary
  abbrev pub boundary_unit : ℕ → ℕ
  boundary_unit k = if k == length line.clusters then line.end else get_or (map (λ c. c.start) line.clusters) k 0

  -- the caret at a code unit: none outside the line or inside a cluster
  unfoldable pub caret : ℕ → Option Caret
  caret unit =
      if nat_le line.start unit && boundary_unit (clusters_before unit) == unit then Some (caret_at (clusters_before unit))
      else None

  -- the k-th cluster has a code unit
  abbrev pub has_unit : ℕ → ℕ → Bool
  has_unit unit k = nat_le (slice_index (starts line.clusters) k) unit && nat_lt unit (slice_index (ends line.clusters) k)

  -- the index of a cluster, if there is one
  abbrev pub IsClusterOf : Option ℕ → Type 0
  IsClusterOf cluster = IfSome cluster (λ k. k < length line.clusters)

  -- the cluster that has a code unit
  unfoldable pub cluster_at : ℕ → Option ℕ
  cluster_at unit = find (has_unit unit) (indexes line.clusters)

  -- the positions before and after the k-th cluster
  abbrev pub start_of_cluster : ℕ → Position
  start_of_cluster k = record { unit = boundary_unit k; affinity = After }

  abbrev pub end_of_cluster : ℕ → Position
  end_of_cluster k = record { unit = boundary_unit (k + 1); affinity = Before }

  -- the positions at its left and at its right edge
  abbrev pub position_at_edge : ℕ → Side → Position
  position_at_edge k Left = if is_odd (level_at k) then end_of_cluster k else start_of_cluster k
  position_at_edge k Right = if is_odd (level_at k) then start_of_cluster k else end_of_cluster k

  -- the start and the end of the line
  abbrev pub line_start : Position
  line_start = record { unit = line.start; affinity = Before }

  abbrev pub line_end : Position
  line_end = record { unit = line.end; affinity = After }

  -- the positions at its left and at its right end
  abbrev pub position_at_end : Side → Position
  position_at_end Left = if is_odd line.para_level then line_end else line_start
  position_at_end Right = if is_odd line.para_level then line_start else line_end

  -- the cluster that covers a column
  abbrev pub covers : ℕ → ℕ → Bool
  covers column k = nat_le (left_edge line.clusters k) column && nat_lt column (right_edge line.clusters k)

  unfoldable pub cluster_at_column : ℕ → Option ℕ
  cluster_at_column column = find (covers column) (cluster_order line.clusters)

  -- a click on a half of a column: left of the middle of its cluster, the left edge
  abbrev pub position_in : ℕ → Side → ℕ → Position
  position_in column half k =
      if nat_lt (halves_before column half) (left_edge line.clusters k + right_edge line.clusters k)
      then position_at_edge k Left else position_at_edge k Right

  abbrev pub position_by : ℕ → Side → Option ℕ → Position
  position_by column half (Some k) = position_in column half k
  position_by column half None = position_at_end Right

  unfoldable pub position_at : ℕ → Side → Position
  position_at column half = position_by column half (cluster_at_column column)

  -- some code unit of the k-th cluster is in a range
  abbrev pub selected_at : ℕ → ℕ → ℕ → Bool
  selected_at start end k = get_or (map (is_selected start end) line.clusters) k false

  -- the columns of the selected clusters, from left to right
  unfoldable pub selected_columns : ℕ → ℕ → List Run
  selected_columns start end =
      joined_columns (map (λ k. (left_edge line.clusters k, right_edge line.clusters k))
      (filter (selected_at start end) (cluster_order line.clusters)))
