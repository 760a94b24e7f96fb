use Rattle.bidi_base.proofs.Common.{◌≡◌, ◌≤◌, length, drop, map}
use Rattle.bidi_laws.proofs.IsolateWalk.{deciding_from}
use Rattle.unicode_bidi.proofs.base.has_deciding.Given as goal

-- no character so far decides, and so many isolates are open
abbrev pub invariant-loop-c : goal.invariant-loop-c
invariant-loop-c g l =
    let class_of = (g.D.BidiDataSource.source l.data_source).class_of in
    let cs = (g.T.TextSource.text l.fn.text).chars in
    (goal.iterator-loop-c g).can_next l.c-iterator × (goal.iterator-loop-c g).is_finite l.c-iterator
    × (l.depth ≤ length l.yielded)
    × (deciding_from 0 (map class_of cs) ≡ deciding_from l.depth (map class_of (drop (length l.yielded) cs)))
