use Rattle.std.proofs.Common.{◌≡◌, ◌<◌, ◌≤◌, ◌+◌, ◌&&◌, ℕ, false, get_or}
use Rattle.bidi_reports.specs.Globs.{takes}
use Rattle.bidi_reports.proofs.glob.take_one.Given as goal

abbrev pub invariant-loop-index : goal.invariant-loop-index
invariant-loop-index l = record {
  changed : (k : ℕ) → k < l.index → get_or l.ends k false ≡ (takes l.part (get_or l.chars k 0) && get_or l.fn.ends (k + 1) false);
  unchanged : (k : ℕ) → l.index ≤ k → get_or l.ends k false ≡ get_or l.fn.ends k false;
}
