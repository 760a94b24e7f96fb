use Rattle.bidi_base.proofs.Common.{◌≡◌, ◌%◌, ◌==◌, take, list_any, is_odd}
use Rattle.bidi_lines.proofs.lists.any_odd.Given as goal

-- the numbers so far have an odd one exactly if their bits joined are odd
abbrev pub invariant-loop-number : goal.invariant-loop-number
invariant-loop-number l = (l.all % 2 == 1) ≡ list_any is_odd (take l.number-index l.numbers)
