use Rattle.bidi_base.proofs.Common.{◌≡◌, take, list_all}
use Rattle.bidi_numbers.specs.Texts.{is_scalar}
use Rattle.bidi_numbers.proofs.texts.all_scalar.Given as goal

-- the numbers read so far
abbrev pub invariant-loop-number : goal.invariant-loop-number
invariant-loop-number l = l.all ≡ list_all is_scalar (take l.number-index l.numbers)
