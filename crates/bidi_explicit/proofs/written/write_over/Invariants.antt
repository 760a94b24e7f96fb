use Rattle.bidi_base.proofs.Common.{◌≡◌, ◌+◌, ◌-◌, ◌≤◌, get_or, is_kept_in_place}
use Rattle.bidi_base.specs.declared.char_data.BidiClass.TheVariants.{L}
use Rattle.bidi_explicit.specs.SequenceUnits.{IsWrittenOver}
use Rattle.bidi_explicit.proofs.written.write_over.Given as goal

-- the units so far are written; where there are none, nothing is
abbrev pub invariant-loop-unit : goal.invariant-loop-unit
invariant-loop-unit g l = IsWrittenOver (λ k. is_kept_in_place (get_or l.fn.classes k L)) l.class l.from l.unit l.fn.classes l.classes × (l.to ≤ l.from → (l.classes ≡ l.fn.classes) × (l.steps ≡ l.fn.steps)) × (l.steps ≡ l.fn.steps + (l.unit - l.from))
