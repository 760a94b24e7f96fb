-- How far a pass over a text has read the cluster that begins at an index.
use Rattle.std.specs.Prelude.{◌≡◌, ℕ, ◌<◌, ◌≤◌, true, if◌then◌else◌, List, ◌∷◌, length, take, reverse, slice_range}
use Rattle.bidi_base.specs.Texts.{Encoding, Text, char_index, is_boundary}
use Rattle.unicode_segmentation.specs.Segments.{prepend}
use Rattle.bidi_display.specs.ClusterState.{state_after}
use Rattle.bidi_display.specs.Clusters.{is_cluster_boundary, clusters_from}
use Rattle.bidi_display.specs.declared.cluster_state.ClusterState.{ClusterState}

-- the characters from the k-th up to the m-th are in one cluster, which begins with them
pub record IsBegun (chars : List ℕ) (k m : ℕ) : Type 0 where
  pub some : k < m
  pub within : m ≤ length chars
  pub joined : clusters_from chars k
      ≡ (if is_cluster_boundary chars m then slice_range chars k m ∷ clusters_from chars m
      else prepend (slice_range chars k m) (clusters_from chars m))

-- a pass has read the characters before the index `at`, and at least the first one of the cluster at `start`
pub record IsReadTo {e : Encoding} (text : Text e) (start at : ℕ) (state : ClusterState) : Type 0 where
  pub begins : is_boundary text start ≡ true
  pub ends : is_boundary text at ≡ true
  pub begun : IsBegun text.chars (char_index text start) (char_index text at)
  pub reads : state ≡ state_after (reverse (take (char_index text at) text.chars))
