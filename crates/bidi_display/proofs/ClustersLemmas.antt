-- What a call of an iterator over clusters leaves.
use Rattle.bidi_base.proofs.Common.{◌≡◌, ℕ, ◌∷◌, Some, Range, MakesProgress, item_count, arith}
use Rattle.bidi_display.specs.ClustersLeft.{clusters_left}
use Rattle.bidi_display.specs.declared.clusters.Clusters.{Clusters}

-- a call that returned the first range
pub next-progress : {T C I L : Type 0} {t : _} {c : _} {i : _} {l : _} (can : Clusters T C I L t c i l → Type 0) (s u : Clusters T C I L t c i l) (r : Range ℕ) (x : ℕ × ℕ)
    → clusters_left s ≡ x ∷ clusters_left u → can u → MakesProgress can (item_count (λ v. clusters_left v)) s (Some r) u
next-progress can s u r x e ready = grind arith
