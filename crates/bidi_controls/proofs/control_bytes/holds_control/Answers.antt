use Rattle.bidi_base.proofs.Common.{◌∙◌, sym, ap, ◌+◌, arith, take_rest, length-drop}
use Rattle.bidi_controls.specs.ControlBytes.{begins_with_control}
use Rattle.bidi_controls.proofs.ControlBytesLemmas.{found-within, found-here, found-other, found-none}
use Rattle.bidi_controls.proofs.control_bytes.holds_control.Goals as goal

pub returns-then-begins_with_control : goal.returns-then-begins_with_control
returns-then-begins_with_control c =
    let rest = c.loop-at.rest.now in let at = c.in-Some.at in
    let begins = ap begins_with_control (sym (take_rest rest at)) ∙ sym c.begins_with_control.ensures ∙ c.if-begins_with_control.true in
    sym (sym c.loop-at.invariant.same ∙ found-here rest at c.in-Some.ensures begins)

pub overflow_add-rest : goal.overflow_add-rest
overflow_add-rest c = omega (arith, found-within c.loop-at.rest.now c.in-Some.at c.in-Some.ensures, c.loop-at.invariant.shorter)

pub loop-at-preserved : goal.loop-at-preserved
loop-at-preserved c =
    let rest = c.loop-at.rest.now in let at = c.in-Some.at in
    let other = ap begins_with_control (sym (take_rest rest at)) ∙ sym c.begins_with_control.ensures ∙ c.if-begins_with_control.false in
    let same = found-other rest at c.in-Some.ensures other in
    record { same = rw (take_rest rest (at + 1)) (sym same ∙ c.loop-at.invariant.same); shorter = rw (take_rest rest (at + 1)) (omega (arith, length-drop (at + 1) rest, c.loop-at.invariant.shorter)) }

pub returns : goal.returns
returns c = sym (sym c.loop-at.invariant.same ∙ found-none c.loop-at.rest.now c.in_default.ensures)
