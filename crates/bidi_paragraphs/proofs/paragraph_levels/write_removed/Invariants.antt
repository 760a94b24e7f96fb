use Rattle.bidi_base.proofs.Common.{◌≡◌, ℕ, ◌-◌, ◌<◌, ◌≤◌, true, false, length, is_kept_at}
use Rattle.bidi_base.specs.Updated.{IsUpdated}
use Rattle.bidi_paragraphs.proofs.paragraph_levels.write_removed.Given as goal

abbrev pub invariant-loop-at : goal.invariant-loop-at
invariant-loop-at l = record {
  begins : l.from ≤ l.at;
  ends : l.at ≤ length l.classes;
  removed : (u : ℕ) → l.from ≤ u → u < l.at → is_kept_at l.classes u ≡ false;
  written : IsUpdated 0 (λ u. true) (λ level. l.before) l.from l.at l.initial.levels l.levels;
}

abbrev pub decreases-loop-at : goal.decreases-loop-at
decreases-loop-at l = length l.initial.levels - l.at
