use Rattle.std.proofs.Common.{◌≡◌, ◌<◌, ◌≤◌, ◌+◌, ◌&&◌, ◌||◌, ℕ, false, get_or, length}
use Rattle.bidi_reports.specs.Globs.{takes}
use Rattle.bidi_reports.proofs.glob.take_many.Given as goal

abbrev pub invariant-loop-index : goal.invariant-loop-index
invariant-loop-index l = record {
  within : l.index ≤ length l.chars;
  unchanged : (k : ℕ) → k < l.index → get_or l.ends k false ≡ get_or l.fn.ends k false;
  last : get_or l.ends (length l.chars) false ≡ get_or l.fn.ends (length l.chars) false;
  changed : (k : ℕ) → l.index ≤ k → k < length l.chars
      → get_or l.ends k false ≡ (get_or l.fn.ends k false || (takes l.part (get_or l.chars k 0) && get_or l.ends (k + 1) false));
}

abbrev pub decreases-loop-index : goal.decreases-loop-index
decreases-loop-index l = l.index
