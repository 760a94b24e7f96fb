use Rattle.bidi_base.proofs.Common.{◌≡◌, ◌<◌, ◌++◌, drop}
use Rattle.bidi_shown.specs.SpreadLine.{chars, levels}
use Rattle.bidi_shown.specs.Tabs.{spread, spread_values}
use Rattle.bidi_shown.proofs.tabs.SpreadLine.spread.Given as goal

abbrev pub invariant-loop-at : goal.invariant-loop-at
invariant-loop-at l = record {
  within : l.column < 8;
  of_chars : chars l.self ++ spread l.column (drop l.at l.chars) ≡ spread 0 l.chars;
  of_levels : levels l.self ++ spread_values l.column (drop l.at l.chars) (drop l.at l.levels) ≡ spread_values 0 l.chars l.levels;
}
