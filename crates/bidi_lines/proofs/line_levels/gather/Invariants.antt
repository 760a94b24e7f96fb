use Rattle.bidi_base.proofs.Common.{◌≡◌, length}
use Rattle.bidi_lines.proofs.Gathered.{IsGathered, IsSwept}
use Rattle.bidi_lines.proofs.line_levels.gather.Given as goal

abbrev pub invariant-loop-at : goal.invariant-loop-at
invariant-loop-at g l = IsSwept g.T.TextSource.encoding.len_of (g.T.TextSource.text l.fn.text).chars l.initial.levels l.levels l.count l.at

abbrev pub invariant-loop-at-2 : goal.invariant-loop-at-2
invariant-loop-at-2 g l =
    (goal.iterator-loop-at-2 g).can_next l.at-iterator × (goal.iterator-loop-at-2 g).is_finite l.at-iterator
    × (l.index ≡ length l.yielded)
    × IsGathered g.T.TextSource.encoding.len_of (g.T.TextSource.text l.fn.text).chars l.initial.levels l.levels l.index
