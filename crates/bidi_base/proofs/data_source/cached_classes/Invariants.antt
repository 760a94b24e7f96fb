use Rattle.bidi_base.proofs.Common.{◌≡◌, ℕ, ◌<◌, get_or, drop, L, table_class}
use Rattle.bidi_base.proofs.data_source.cached_classes.Given as goal

-- the classes by the ranges from `i` on
abbrev pub invariant-loop-i : goal.invariant-loop-i
invariant-loop-i l = (n : ℕ) → n < 2048 → get_or l.classes n L ≡ table_class (drop l.i l.ranges) n
