use Rattle.bidi_base.proofs.Common.{◌≡◌, ◌++◌, replicate}
use Rattle.bidi_shown.specs.SpreadLine.{chars, levels}
use Rattle.bidi_shown.proofs.tabs.SpreadLine.push_spaces.Given as goal

abbrev pub invariant-loop-left : goal.invariant-loop-left
invariant-loop-left l = record {
  of_chars : chars l.self ++ replicate l.left 0x20 ≡ chars l.fn.self ++ replicate l.count 0x20;
  of_levels : levels l.self ++ replicate l.left l.level ≡ levels l.fn.self ++ replicate l.count l.level;
}

abbrev pub decreases-loop-left : goal.decreases-loop-left
decreases-loop-left l = l.left
