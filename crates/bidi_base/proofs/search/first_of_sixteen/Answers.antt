use Rattle.bidi_base.proofs.Common.{not, eqb, arith, w8, bitmask_splat}
use Rattle.bidi_base.proofs.SearchLanes.{none_of_sixteen, first_of_sixteen}
use Rattle.bidi_base.proofs.search.first_of_sixteen.Goals as goal

pub returns-then-bits-eq0 : goal.returns-then-bits-eq0
returns-then-bits-eq0 g c =
    let bits = bitmask_splat w8 (λ a b. not (eqb a b)) c.marks-marks.result 16 0 c.marks-marks.ensures.sixteen (omega arith) in
    none_of_sixteen (g.T.Tested.passes c.args.tested) c.args.at c.marks-marks.result c.marks-marks.ensures.sixteen c.marks-marks.ensures.marked
    (rw bits at c.if-bits-eq0.true)

pub returns-else-bits-eq0 : goal.returns-else-bits-eq0
returns-else-bits-eq0 g c =
    let bits = bitmask_splat w8 (λ a b. not (eqb a b)) c.marks-marks.result 16 0 c.marks-marks.ensures.sixteen (omega arith) in
    rw bits
    (first_of_sixteen (g.T.Tested.passes c.args.tested) c.args.at c.marks-marks.result c.marks-marks.ensures.sixteen c.marks-marks.ensures.marked
    (omega (arith, bits, c.if-bits-eq0.false)))

pub overflow_add-result : goal.overflow_add-result
overflow_add-result g c = omega (arith, (returns-else-bits-eq0 g c).0, c.requires.fits)
