-- The units so far are changed; where there are none, nothing is.
use Rattle.bidi_base.proofs.Common.{◌≡◌, ◌≤◌, true, n2_rule}
use Rattle.bidi_base.specs.declared.char_data.BidiClass.TheVariants.{L}
use Rattle.bidi_base.specs.Updated.{IsUpdated}
use Rattle.bidi_rules.proofs.neutral.directions.apply_n2_in_run.Given as goal

abbrev pub invariant-loop-unit : goal.invariant-loop-unit
invariant-loop-unit l = IsUpdated L (λ u. true) (n2_rule l.embedding) l.run.start l.unit l.fn.classes l.classes × (l.run.end ≤ l.run.start → l.classes ≡ l.fn.classes)
