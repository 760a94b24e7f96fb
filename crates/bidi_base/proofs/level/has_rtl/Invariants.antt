use Rattle.bidi_base.proofs.Common.{◌≡◌, ◌%◌, ◌==◌, take, list_any, is_odd}
use Rattle.bidi_base.proofs.level.has_rtl.Given as goal

-- the numbers so far have an odd one exactly if their bits joined are odd
abbrev pub invariant-loop-level : goal.invariant-loop-level
invariant-loop-level l = (l.all % 2 == 1) ≡ list_any is_odd (take l.level-index l.levels)
