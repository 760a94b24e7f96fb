use Rattle.bidi_base.proofs.Common.{◌≡◌, ◌<◌, ◌≤◌, ℕ, fold, max, take, get_or, implicit_level, class_at}
use Rattle.bidi_rules.proofs.implicit.levels.resolve_levels.Given as goal

-- the units so far have their implicit levels, and the others stay
abbrev pub invariant-loop-unit : goal.invariant-loop-unit
invariant-loop-unit l = record {
  written : (k : ℕ) → k < l.unit → get_or l.levels k 0 ≡ implicit_level (get_or l.fn.levels k 0) (class_at l.processing_classes k);
  rest : (k : ℕ) → l.unit ≤ k → get_or l.levels k 0 ≡ get_or l.fn.levels k 0;
  greatest : l.greatest ≡ fold max 0 (take l.unit l.levels);
  small : l.greatest ≤ 126;
}
