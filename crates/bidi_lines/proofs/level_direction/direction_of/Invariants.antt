use Rattle.bidi_base.proofs.Common.{◌≡◌, take, list_any, is_odd, is_even}
use Rattle.bidi_lines.proofs.level_direction.direction_of.Given as goal

abbrev pub invariant-loop-level : goal.invariant-loop-level
invariant-loop-level l = record {
  some_odd : is_odd l.odd ≡ list_any is_odd (take l.level-index l.levels);
  some_even : is_odd l.even ≡ list_any is_even (take l.level-index l.levels);
}
