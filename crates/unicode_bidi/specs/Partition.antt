-- A partition is a fact with one proof at most, so it may be a ghost field.
use Rattle.std.specs.Prelude.{ℕ, List, [], ◌∷◌}
use Rattle.std.specs.Coded.{le_prop, Coded-set, coded_ℕ}
use Rattle.bidi_base.specs.Paragraphs.{IsPartition}

pub IsPartition-prop : (start end : ℕ) (ranges : List (ℕ × ℕ)) → IsProp (IsPartition start end ranges)
IsPartition-prop start end [] p q = Coded-set coded_ℕ start end p q
IsPartition-prop start end (r ∷ rs) p q = λ i. (Coded-set coded_ℕ r.0 start p.0 q.0 i, le_prop p.1 q.1 i, IsPartition-prop r.1 end rs p.2 q.2 i)
