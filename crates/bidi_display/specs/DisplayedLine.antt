-- A displayed line: its clusters with their widths, and their columns from left to right.
use Rattle.std.specs.Prelude.{◌≡◌, ℕ, ◌<◌, ◌≤◌, ◌+◌, ◌-◌, ◌%◌, ◌==◌, if◌then◌else◌, List, [], ◌∷◌, length, map, min, get_or, slice_index}
use Rattle.bidi_base.specs.Indexes.{at_indexes, last_or}
use Rattle.bidi_base.specs.Order.{visual_index, visual_order}
use Rattle.bidi_display.specs.declared.line_char.LineChar.{LineChar}
use Rattle.bidi_display.specs.declared.line_cluster.LineCluster.{LineCluster}
use Rattle.bidi_display.specs.declared.options.DisplayOptions.{DisplayOptions}
use Rattle.bidi_display.specs.LineClusters.{cluster_level, displayed_chars, line_clusters}

-- sums of columns stop at the maximum of a usize
abbrev pub max_columns : ℕ
max_columns = 0xFFFFFFFFFFFFFFFF

abbrev pub add_columns : ℕ → ℕ → ℕ
add_columns column width = min max_columns (column + width)

-- the columns from a column up to the next tab stop
abbrev pub tab_columns : ℕ → ℕ → ℕ
tab_columns tab column = tab - column % tab

module _ (options : DisplayOptions) (width_of : List ℕ → ℕ) where
  -- the width of a cluster that begins at a column, from its displayed characters: 0 if there is none
  abbrev pub width_at : ℕ → List ℕ → ℕ
  width_at column [] = 0
  width_at column (c ∷ cs) =
      if c == 0x09 then (if options.tab == 0 then width_of (c ∷ cs) else tab_columns options.tab column)
      else width_of (c ∷ cs)

  -- the same from all characters of the cluster
  abbrev pub cluster_width : ℕ → List LineChar → ℕ
  cluster_width column cluster = width_at column (map (λ c. c.char) (displayed_chars options cluster))

  -- where the code units of a cluster begin and end
  abbrev pub cluster_start : List LineChar → ℕ
  cluster_start [] = 0
  cluster_start (c ∷ cs) = c.start

  abbrev pub cluster_end : List LineChar → ℕ
  cluster_end [] = 0
  cluster_end (c ∷ []) = c.end
  cluster_end (c ∷ d ∷ cs) = cluster_end (d ∷ cs)

  -- a cluster: its first character has this index in the line, and it begins at this column in the order of the text
  abbrev pub cluster_of : ℕ → ℕ → List LineChar → LineCluster
  cluster_of at column cluster = record {
    start = cluster_start cluster;
    end = cluster_end cluster;
    chars_start = at;
    chars_end = at + length cluster;
    level = cluster_level options cluster;
    width = cluster_width column cluster;
  }

  -- clusters: the first one begins at this index and at this column. Columns are counted in the order of the text, so
  -- tab stops are counted from the side where the line begins
  abbrev pub clusters_from : ℕ → ℕ → List (List LineChar) → List LineCluster
  clusters_from at column [] = []
  clusters_from at column (k ∷ ks) =
      cluster_of at column k ∷ clusters_from (at + length k) (add_columns column (cluster_width column k)) ks

  -- the clusters of a line
  unfoldable pub clusters_of : List LineChar → List LineCluster
  clusters_of chars = clusters_from 0 0 (line_clusters options chars)

-- the levels of clusters
abbrev pub levels_of : List LineCluster → List ℕ
levels_of clusters = map (λ k. k.level) clusters

-- the columns at the left edges of clusters of these widths, from left to right, and at the right edge of the last one
abbrev pub edges_from : ℕ → List ℕ → List ℕ
edges_from column [] = column ∷ []
edges_from column (width ∷ widths) = column ∷ edges_from (add_columns column width) widths

-- the clusters from left to right (L2), as their indexes
abbrev pub cluster_order : List LineCluster → List ℕ
cluster_order clusters = visual_order (levels_of clusters)

-- the edges of the clusters from left to right
unfoldable pub edges : List LineCluster → List ℕ
edges clusters = edges_from 0 (at_indexes 0 (map (λ k. k.width) clusters) (cluster_order clusters))

-- the width of the line
abbrev pub line_width : List LineCluster → ℕ
line_width clusters = last_or 0 (edges clusters)

-- the columns at the edges of the k-th cluster
abbrev pub left_edge : List LineCluster → ℕ → ℕ
left_edge clusters k = get_or (edges clusters) (visual_index (levels_of clusters) k) 0

abbrev pub right_edge : List LineCluster → ℕ → ℕ
right_edge clusters k = get_or (edges clusters) (visual_index (levels_of clusters) k + 1) 0

-- where the clusters begin and end
abbrev pub starts : List LineCluster → List ℕ
starts clusters = map (λ k. k.start) clusters

abbrev pub ends : List LineCluster → List ℕ
ends clusters = map (λ k. k.end) clusters

-- the clusters are not empty, and together they cover the code units from `start` up to `end` in order
pub record AreClustersFrom (start end : ℕ) (clusters : List LineCluster) : Type 0 where
  pub none : length clusters ≡ 0 → start ≡ end
  pub not_empty : (k : ℕ) → k < length clusters → slice_index (starts clusters) k < slice_index (ends clusters) k
  pub first : 0 < length clusters → slice_index (starts clusters) 0 ≡ start
  pub adjacent : (k : ℕ) → k + 1 < length clusters → slice_index (ends clusters) k ≡ slice_index (starts clusters) (k + 1)
  pub last : (k : ℕ) → k + 1 ≡ length clusters → slice_index (ends clusters) k ≡ end

-- where the characters of the clusters begin and end
abbrev pub chars_starts : List LineCluster → List ℕ
chars_starts clusters = map (λ k. k.chars_start) clusters

abbrev pub chars_ends : List LineCluster → List ℕ
chars_ends clusters = map (λ k. k.chars_end) clusters

-- each cluster has characters, and they are some of this many
pub record HaveCharsWithin (count : ℕ) (clusters : List LineCluster) : Type 0 where
  pub not_empty : (k : ℕ) → k < length clusters → slice_index (chars_starts clusters) k < slice_index (chars_ends clusters) k
  pub within : (k : ℕ) → k < length clusters → slice_index (chars_ends clusters) k ≤ count
