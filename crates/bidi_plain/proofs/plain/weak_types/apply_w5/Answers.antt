use Rattle.bidi_base.proofs.Common.{arith}
use Rattle.bidi_laws.proofs.InPlace.{IsRewritten-end}
use Rattle.bidi_plain.proofs.Terminators.{step-filled, step-kept}
use Rattle.bidi_plain.proofs.plain.weak_types.apply_w5.Goals as goal
use Rattle.bidi_plain.proofs.plain.weak_types.apply_w5.Goals.{then-after_number, then-after_number-via-then-after_number}
use Rattle.bidi_plain.proofs.plain.weak_types.apply_w5.Goals.{then-after_number-via-else-after_number+then-before_number, else-after_number+else-before_number}

pub loop-start-preserved : goal.loop-start-preserved
loop-start-preserved c =
    let s = c.loop-start in
    let filled = step-filled c.args.classes.now s.classes s.after_number c.is_european_number-before_number.result s.start c.terminators.result s.invariant in
    let kept = step-kept c.args.classes.now s.classes s.after_number c.is_european_number-before_number.result s.start c.terminators.result s.invariant in
    elim c.if-after_number.branch [
      | then-after_number w ↦ rw w.classes-is (filled (grind arith) (grind arith) (grind arith) _ (elim w.then-after_number.branch [ then-after_number-via-then-after_number v ↦ grind arith | then-after_number-via-else-after_number+then-before_number v ↦ grind arith ]) (w.fill.ensures.after (λ y e. e)))
      | else-after_number+else-before_number w ↦ rw w.classes-is (kept (grind arith) (grind arith) (grind arith) (grind arith))
    ]

pub returns : goal.returns
returns c = grind (arith, IsRewritten-end)
