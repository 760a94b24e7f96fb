-- How far a pass over the characters of a line has found its clusters.
use Rattle.std.specs.Prelude.{◌≡◌, ℕ, ◌<◌, ◌-◌, true, false, List, [], ◌∷◌, ◌++◌, drop, slice_range}
use Rattle.bidi_display.specs.DisplayedLine.{clusters_from, clusters_of}
use Rattle.bidi_display.specs.Joining.{is_simple, joining_after}
use Rattle.bidi_display.specs.LineClusters.{begins_cluster, clusters_after}
use Rattle.bidi_display.specs.declared.grouping.Joining.{Joining}
use Rattle.bidi_display.specs.declared.line_char.LineChar.{LineChar}
use Rattle.bidi_display.specs.declared.line_cluster.LineCluster.{LineCluster}
use Rattle.bidi_display.specs.declared.options.DisplayOptions.{DisplayOptions}

-- characters before clusters, as the front of the first
abbrev pub prepend : List LineChar → List (List LineChar) → List (List LineChar)
prepend part [] = part ∷ []
prepend part (cluster ∷ clusters) = (part ++ cluster) ∷ clusters

-- the cluster that begins at `from` was read up to `at`, and its last displayed character so far is before `end`. It
-- ends there if the next displayed character begins another one
pub record IsReadTo (options : DisplayOptions) (chars : List LineChar) (from : ℕ) (before : List LineChar) (end at : ℕ)
    (joining : Joining) : Type 0 where
  pub read : List LineChar
  pub reads : joining ≡ joining_after options.moves read
  pub same : begins_cluster options read (drop end chars) ≡ begins_cluster options read (drop at chars)
  pub ends : begins_cluster options read (drop at chars) ≡ true
      → clusters_after options before (drop from chars) ≡ slice_range chars from end ∷ clusters_after options read (drop end chars)
  pub goes_on : begins_cluster options read (drop at chars) ≡ false
      → clusters_after options before (drop from chars) ≡ prepend (slice_range chars from at) (clusters_after options read (drop at chars))

-- the clusters before `from` were found; the next one begins there, at this column
pub record IsFoundTo (options : DisplayOptions) (width_of : List ℕ → ℕ) (chars : List LineChar) (from column : ℕ)
    (joining : Joining) (found : List LineCluster) : Type 0 where
  pub read : List LineChar
  pub reads : joining ≡ joining_after options.moves read
  pub begins : begins_cluster options read (drop from chars) ≡ true
  pub all : found ++ clusters_from options width_of from column (clusters_after options read (drop from chars))
      ≡ clusters_of options width_of chars

-- the same up to `end`: either nothing was found from `from` on, or the last character before `end` was read last. It is
-- simple, and `joining` has not read it
pub record IsFoundPast (options : DisplayOptions) (width_of : List ℕ → ℕ) (chars : List LineChar) (from end column : ℕ)
    (joining : Joining) (found : List LineCluster) : Type 0 where
  pub none : end ≡ from → IsFoundTo options width_of chars from column joining found
  pub some : from < end → (c : LineChar) × (before : List LineChar) × (drop (end - 1) chars ≡ c ∷ drop end chars)
      × (is_simple c ≡ true) × IsFoundTo options width_of chars end column (joining_after options.moves (c ∷ before)) found
