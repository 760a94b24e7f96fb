-- The units so far are written; where there are none, nothing is.
use Rattle.bidi_base.proofs.Common.{◌≡◌, ◌≤◌, is_kept_in_place, class_at}
use Rattle.bidi_explicit.specs.SequenceUnits.{IsWrittenOver}
use Rattle.bidi_rules.proofs.neutral.pairs.write_bracket.Given as goal

abbrev pub invariant-loop-unit : goal.invariant-loop-unit
invariant-loop-unit l = IsWrittenOver (λ k. is_kept_in_place (class_at l.fn.classes k)) l.direction l.fn.bracket.unit l.unit l.fn.classes l.classes × (l.fn.bracket.end ≤ l.fn.bracket.unit → l.classes ≡ l.fn.classes)
