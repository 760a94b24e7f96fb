use Rattle.bidi_base.proofs.Common.{◌≡◌, ◌+◌, ◌≤◌, ◌++◌, List, length, drop, map}
use Rattle.bidi_base.specs.declared.char_data.BidiClass.{BidiClass}
use Rattle.unicode_bidi.specs.DirectionSearch.{direction_after}
use Rattle.unicode_bidi.proofs.direction_search.search_direction.Given as goal

abbrev pub invariant-loop-c : goal.invariant-loop-c
invariant-loop-c g l =
    let class_of = (g.D.BidiDataSource.source l.data_source).class_of in
    let cs = (g.T.TextSource.text l.fn.text).chars in
    (goal.iterator-loop-c g).can_next l.c-iterator × (goal.iterator-loop-c g).is_finite l.c-iterator
    × (l.now ≤ l.depth + length l.yielded)
    × ((more : List BidiClass) → direction_after l.full l.depth (map class_of cs ++ more) ≡ direction_after l.full l.now (map class_of (drop (length l.yielded) cs) ++ more))
