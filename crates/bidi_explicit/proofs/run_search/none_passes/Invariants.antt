-- No class of the runs so far passes.
use Rattle.bidi_base.proofs.Common.{◌≡◌, ℕ, true, false, map, take, class_at, bounds, in_runs}
use Rattle.bidi_explicit.proofs.run_search.none_passes.Given as goal

abbrev pub invariant-loop-run : goal.invariant-loop-run
invariant-loop-run g l = (u : ℕ) → in_runs (take l.run-index (map bounds l.runs)) u ≡ true → g.C.ClassTest.test l.test (class_at l.classes u) ≡ false
