-- The characters so far are marks, or BN.
use Rattle.bidi_base.proofs.Common.{◌≡◌, ◌-◌, ◌<◌, ◌≤◌, ℕ, true, map, take, get_or, is_nsm, is_kept_in_place, class_at, is_boundary, unit_index, bounds, in_runs}
use Rattle.bidi_explicit.proofs.WalkLemmas.{no_range}
use Rattle.bidi_rules.proofs.neutral.marks.marks_end.Given as goal

abbrev pub invariant-loop-run : goal.invariant-loop-run
invariant-loop-run g l =
    let len_of = g.T.TextSource.encoding.len_of in
    let chars = (g.T.TextSource.text l.fn.text).chars in
    (u : ℕ) → in_runs (take l.run-index (map bounds l.runs)) u ≡ true → (k : ℕ) → u ≡ unit_index len_of chars k → l.from ≤ u → is_kept_in_place (class_at l.classes u) ≡ true → is_nsm (class_at l.original_classes u) ≡ true

abbrev pub invariant-loop-at : goal.invariant-loop-at
invariant-loop-at g l =
    let len_of = g.T.TextSource.encoding.len_of in
    let chars = (g.T.TextSource.text l.fn.text).chars in
    record {
      begins : is_boundary len_of chars l.at ≡ true;
      marks : (u : ℕ) → (get_or l.runs l.run-index no_range).start ≤ u → u < l.at → (k : ℕ) → u ≡ unit_index len_of chars k → l.from ≤ u
          → is_kept_in_place (class_at l.classes u) ≡ true → is_nsm (class_at l.original_classes u) ≡ true;
      start : (get_or l.runs l.run-index no_range).start ≤ l.at;
      from : l.from ≤ l.at;
    }

abbrev pub decreases-loop-at : goal.decreases-loop-at
decreases-loop-at g l = (get_or l.runs l.run-index no_range).end - l.at
