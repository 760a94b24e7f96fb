-- No character so far passes, and each was a step.
use Rattle.bidi_base.proofs.Common.{◌≡◌, ℕ, ◌+◌, ◌-◌, ◌<◌, ◌≤◌, false, true, class_at, char_index, is_boundary}
use Rattle.bidi_explicit.proofs.explicit.stretches.Paragraph.next_character.Given as goal

abbrev pub invariant-loop-at : goal.invariant-loop-at
invariant-loop-at g l =
    let len_of = g.T.TextSource.encoding.len_of in
    let chars = (g.T.TextSource.text l.self.text).chars in
    (l.from ≤ l.at)
    × (l.at ≤ l.to)
    × ((k : ℕ) → l.from ≤ k → k < l.at → g.C.ClassTest.test l.test (class_at l.self.original_classes.now k) ≡ false)
    × (is_boundary len_of chars l.at ≡ true)
    × (l.steps + char_index len_of chars l.from ≡ l.fn.steps + char_index len_of chars l.at)

abbrev pub decreases-loop-at : goal.decreases-loop-at
decreases-loop-at g l = l.to - l.at
