use Rattle.bidi_base.proofs.Common.{◌≡◌, ◌<◌, ◌≤◌, ℕ, false, find, None, map, take, get_or, is_kept_in_place, class_at, bounds, units_in_runs}
use Rattle.bidi_explicit.proofs.WalkLemmas.{no_range}
use Rattle.bidi_rules.proofs.neutral.nearest.first_kept.Given as goal

-- nothing was read in the runs so far
abbrev pub invariant-loop-run : goal.invariant-loop-run
invariant-loop-run l = find (λ u. is_kept_in_place (class_at l.classes u)) (units_in_runs (map bounds (take l.run-index l.runs))) ≡ None

-- nor in the run that came
abbrev pub invariant-loop-unit : goal.invariant-loop-unit
invariant-loop-unit l = (k : ℕ) → (get_or l.runs l.run-index no_range).start ≤ k → k < l.unit → is_kept_in_place (class_at l.classes k) ≡ false
