-- What an iterator over clusters has left.
use Rattle.std.specs.Prelude.{ℕ, List}
use Rattle.bidi_display.specs.Clusters.{cluster_ranges_from}
use Rattle.bidi_display.specs.declared.clusters.Clusters.{Clusters}

-- the ranges of the clusters that it has not returned yet
abbrev pub clusters_left : {T C I L : Type 0} {t : _} {c : _} {i : _} {l : _} → Clusters T C I L t c i l → List (ℕ × ℕ)
clusters_left {t} s = cluster_ranges_from (t.text s.text) s.start
