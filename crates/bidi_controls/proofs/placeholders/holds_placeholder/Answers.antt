use Rattle.bidi_base.proofs.Common.{◌≡◌, ◌∙◌, ℕ, ◌+◌, ◌<◌, ◌≤◌, true, false, ◌&&◌, List, ◌∷◌, Some, None, length, get_or, drop, drop-cons, drop_all, add-one, refl, sym, arith, Source, is_pdi}
use Rattle.bidi_controls.specs.Controls.{is_control_or_mark}
use Rattle.bidi_controls.specs.Placeholders.{accepts, holds_placeholder, step}
use Rattle.bidi_controls.specs.declared.placeholders.PlaceholderState.{PlaceholderState}
use Rattle.bidi_controls.proofs.placeholders.holds_placeholder.Goals as goal

module _ (source : Source) (state : PlaceholderState) (chars : List ℕ) (i c : ℕ) (fits : i < length chars) (is : c ≡ get_or chars i c) where
  from_here : drop i chars ≡ c ∷ drop (i + 1) chars
  from_here = grind (arith, add-one, drop-cons chars i c fits)

  at_control : is_control_or_mark source c ≡ true → holds_placeholder source state (drop i chars) ≡ (is_pdi (source.class_of c) && accepts state)
  at_control control = simp (from_here, control) refl

  goes_on : (next : PlaceholderState) → is_control_or_mark source c ≡ false → step state c ≡ Some next → holds_placeholder source state (drop i chars) ≡ holds_placeholder source next (drop (i + 1) chars)
  goes_on next other stepped = simp (from_here, other, stepped) refl

  breaks : is_control_or_mark source c ≡ false → step state c ≡ None → holds_placeholder source state (drop i chars) ≡ false
  breaks other stepped = simp (from_here, other, stepped) refl

at_end : (source : Source) (state : PlaceholderState) (chars : List ℕ) (i : ℕ) → length chars ≤ i → holds_placeholder source state (drop i chars) ≡ false
at_end source state chars i past = simp (drop_all i chars past) refl

pub loop-c-preserved : goal.loop-c-preserved
loop-c-preserved g c =
    let source = g.D.BidiDataSource.source c.args.data_source.now in
    sym (goes_on source c.loop-c.state c.args.chars.now c.loop-c.c-index c.c-item.result c.loop-c-test.true c.c-item.is c.in-Some.next (sym c.is_control_or_mark.ensures ∙ c.if-is_control_or_mark.false) (sym c.step.ensures ∙ c.in-Some.is))
    ∙ c.loop-c.invariant

pub returns-then-is_control_or_mark : goal.returns-then-is_control_or_mark
returns-then-is_control_or_mark g c =
    let source = g.D.BidiDataSource.source c.args.data_source.now in
    c.ends_placeholder.ensures
    ∙ sym (at_control source c.loop-c.state c.args.chars.now c.loop-c.c-index c.c-item.result c.loop-c-test.true c.c-item.is (sym c.is_control_or_mark.ensures ∙ c.if-is_control_or_mark.true))
    ∙ c.loop-c.invariant

pub returns-in-None : goal.returns-in-None
returns-in-None g c =
    let source = g.D.BidiDataSource.source c.args.data_source.now in
    sym (breaks source c.loop-c.state c.args.chars.now c.loop-c.c-index c.c-item.result c.loop-c-test.true c.c-item.is (sym c.is_control_or_mark.ensures ∙ c.if-is_control_or_mark.false) (sym c.step.ensures ∙ c.in-None.is))
    ∙ c.loop-c.invariant

pub returns : goal.returns
returns g c =
    sym (at_end (g.D.BidiDataSource.source c.args.data_source.now) c.loop-c.state c.args.chars.now c.loop-c.c-index (grind arith)) ∙ c.loop-c.invariant
