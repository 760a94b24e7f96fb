use Rattle.bidi_base.proofs.Common.{◌≡◌, ◌==◌, take, find_last, Waiting}
use Rattle.bidi_base.proofs.brackets.topmost.Given as goal

-- the entries above were looked at
abbrev pub invariant-loop-entry : goal.invariant-loop-entry
invariant-loop-entry l = find_last (λ (e : Waiting). e.opening == l.fn.opening) l.waiting ≡ find_last (λ (e : Waiting). e.opening == l.fn.opening) (take l.entry l.waiting)
