-- The units so far are changed; where there are none, nothing is.
use Rattle.bidi_base.proofs.Common.{◌≡◌, ◌+◌, ◌-◌, ◌≤◌, true}
use Rattle.bidi_base.specs.declared.char_data.BidiClass.TheVariants.{L}
use Rattle.bidi_base.specs.Updated.{IsUpdated}
use Rattle.bidi_rules.specs.WeakPass.{left_over}
use Rattle.bidi_rules.proofs.weak.w3_w6.change_many.Given as goal

abbrev pub invariant-loop-unit : goal.invariant-loop-unit
invariant-loop-unit g l = record {
  changed : IsUpdated L (λ u. true) left_over l.start l.unit l.fn.classes l.classes;
  steps : l.steps ≡ l.fn.steps + (l.unit - l.start);
  none : l.end ≤ l.start → (l.classes ≡ l.fn.classes) × (l.steps ≡ l.fn.steps);
}
