use Rattle.bidi_base.proofs.Common.{ℕ, ◌-◌, ◌<◌, ◌≤◌, length, range_at}
use Rattle.bidi_base.proofs.data_source.find_class.Given as goal

-- every range below `low` ends before the character, and every one from `high` on begins after it
abbrev pub invariant-loop-low : goal.invariant-loop-low
invariant-loop-low l = record {
  high_fits : l.high ≤ length l.ranges;
  before : (k : ℕ) → k < l.low → (range_at l.ranges k).1 < l.c;
  after : (k : ℕ) → l.high ≤ k → k < length l.ranges → l.c < (range_at l.ranges k).0;
}

abbrev pub decreases-loop-low : goal.decreases-loop-low
decreases-loop-low l = l.high - l.low
