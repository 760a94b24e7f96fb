use Rattle.bidi_base.proofs.Common.{◌+◌, ◌≤◌, ◌↔◌, IsTrue, length, splits_pair}
use Rattle.bidi_calls.specs.PerChar.{AgreeBetween}
use Rattle.bidi_calls.proofs.per_char.is_per_char_by_units.Given as goal

-- the units that were read agree with those before them
abbrev pub invariant-loop-at : goal.invariant-loop-at
invariant-loop-at l = record {
  within : l.at ≤ length l.units + 1;
  before : IsTrue l.agree ↔ AgreeBetween (splits_pair l.units) l.classes l.levels 1 l.at;
}
