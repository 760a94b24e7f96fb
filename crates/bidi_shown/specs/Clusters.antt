-- The grapheme clusters of a text, with the columns that they take in a terminal.
use Rattle.std.specs.Prelude.{ℕ, ◌+◌, ◌%◌, ◌-◌, min, Bool, true, false, List, length, map, sum_by, unwrap_or, codes}
use Rattle.std.specs.List.{list_all}
use Rattle.std.specs.Str.{bytes_eq, chars}
use Rattle.unicode_segmentation.specs.Grapheme.{graphemes}
use Rattle.unicode_segmentation.specs.Segments.{with_offsets}
use Rattle.unicode_width.specs.Width.{char_width}
use Rattle.bidi_base.specs.declared.char_data.BidiClass.{BidiClass}
use Rattle.bidi_base.specs.declared.char_data.BidiClass.TheVariants.{S, WS}
use Rattle.bidi_base.specs.Source.{Source}
use Rattle.bidi_shown.specs.declared.cluster.Cluster.{Cluster}

-- the columns that a character takes, none if it has no width
abbrev pub columns : ℕ → ℕ
columns c = unwrap_or (char_width false c) 0

-- the columns that a tab takes at a column: those up to the next multiple of eight
abbrev pub tab_columns : ℕ → ℕ
tab_columns column = 8 - column % 8

-- the class of a space, at which a line may be cut
abbrev pub is_space : BidiClass → Bool
is_space S = true
is_space WS = true
is_space _ = false

-- the columns that characters take together, or 65535 if they take more
abbrev pub width_of : List ℕ → ℕ
width_of cs = min 65535 (sum_by columns cs)

-- the cluster of these bytes, the first of which has this offset
abbrev pub cluster_at : Source → ℕ × List ℕ → Cluster
cluster_at source (at, bytes) = record {
  start = at;
  end = at + length bytes;
  width = width_of (chars bytes);
  is_tab = bytes_eq bytes (codes "\t");
  is_space = list_all (λ c. is_space (source.class_of c)) (chars bytes);
}

-- the clusters of a text
unfoldable pub clusters_of : Source → List ℕ → List Cluster
clusters_of source text = map (cluster_at source) (with_offsets 0 (graphemes true text))
