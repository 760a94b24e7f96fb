use Rattle.bidi_base.proofs.Common.{get_or, arith, get_or_default, map_over_more, w3_rule}
use Rattle.bidi_base.specs.declared.char_data.BidiClass.TheVariants.{L}
use Rattle.bidi_plain.proofs.plain.weak_types.apply_w3.Goals as goal
use Rattle.bidi_plain.proofs.plain.weak_types.apply_w3.Goals.{then-eq, else-eq}

pub loop-class-preserved : goal.loop-class-preserved
loop-class-preserved c =
    let s = c.loop-class in
    let x = get_or s.classes s.class-index L in
    let step = map_over_more w3_rule c.args.classes.now s.classes s.class-index x c.loop-class-test.true s.invariant (get_or_default s.classes s.class-index L x (omega arith)) in
    elim c.if-eq.branch [ then-eq w ↦ grind (arith, step) | else-eq w ↦ grind (arith, step) ]
