use Rattle.bidi_base.proofs.Common.{◌∙◌, get_or, sym, arith}
use Rattle.unicode_bidi.proofs.SearchLemmas.{step-le, searched-step}
use Rattle.bidi_calls.proofs.FirstDirectionLemmas.{utf32_from-start, utf32_from-end, utf32-valid, utf32-decided, utf32-bad, utf32-found, utf32-open}
use Rattle.bidi_calls.proofs.first_direction.first_direction_utf32.Goals as goal

pub returns-then-not-is_scalar-clause-direction : goal.returns-then-not-is_scalar-clause-direction
returns-then-not-is_scalar-clause-direction g c =
    let source = g.D.BidiDataSource.source c.args.data_source.now in
    utf32-bad source c.args.full c.loop-number.depth c.loop-number.number-index c.args.text.now c.loop-number-test.true (sym c.is_scalar.ensures ∙ c.if-not-is_scalar.true)
    ∙ sym c.loop-number.invariant.1 ∙ sym (utf32_from-start source c.args.full c.args.text.now)

pub returns-in-Found-clause-direction : goal.returns-in-Found-clause-direction
returns-in-Found-clause-direction g c =
    let source = g.D.BidiDataSource.source c.args.data_source.now in
    let step = simp (c.bidi_class.ensures, c.char_of.ensures) at (sym (searched-step c.args.full c.loop-number.depth c.bidi_class.result c.search_class.result c.search_class.ensures) ∙ c.in-Found.is) in
    rw c.number_of_direction.ensures
    (utf32-found source c.args.full c.loop-number.depth c.loop-number.number-index c.args.text.now c.loop-number-test.true (sym c.is_scalar.ensures ∙ c.if-not-is_scalar.false) c.in-Found.direction step
    ∙ sym c.loop-number.invariant.1 ∙ sym (utf32_from-start source c.args.full c.args.text.now))

pub loop-number-preserved : goal.loop-number-preserved
loop-number-preserved g c =
    let source = g.D.BidiDataSource.source c.args.data_source.now in
    let step = simp (c.bidi_class.ensures, c.char_of.ensures) at (sym (searched-step c.args.full c.loop-number.depth c.bidi_class.result c.search_class.result c.search_class.ensures) ∙ c.in-Open.is) in
    let few = step-le c.args.full c.loop-number.depth (source.class_of (get_or c.args.text.now c.loop-number.number-index 0)) c.in-Open.now step in (
      omega (arith, few, c.loop-number.invariant.0),
      c.loop-number.invariant.1
          ∙ utf32-open source c.args.full c.loop-number.depth c.loop-number.number-index c.args.text.now c.loop-number-test.true (sym c.is_scalar.ensures ∙ c.if-not-is_scalar.false) c.in-Open.now step,
    )

pub returns-clause-direction : goal.returns-clause-direction
returns-clause-direction g c =
    let source = g.D.BidiDataSource.source c.args.data_source.now in
    rw c.number_of_direction-2.ensures
    (utf32_from-end source c.args.full c.loop-number.depth c.loop-number.number-index c.args.text.now (omega arith)
    ∙ sym c.loop-number.invariant.1 ∙ sym (utf32_from-start source c.args.full c.args.text.now))

pub returns-in-Found-clause-valid : goal.returns-in-Found-clause-valid
returns-in-Found-clause-valid g c =
    λ valid. returns-in-Found-clause-direction g c ∙ utf32-valid (g.D.BidiDataSource.source c.args.data_source.now) c.args.full c.args.text.now valid

pub returns-clause-valid : goal.returns-clause-valid
returns-clause-valid g c =
    λ valid. returns-clause-direction g c ∙ utf32-valid (g.D.BidiDataSource.source c.args.data_source.now) c.args.full c.args.text.now valid

pub returns-in-Found-clause-decided : goal.returns-in-Found-clause-decided
returns-in-Found-clause-decided g c =
    λ n front over. returns-in-Found-clause-direction g c ∙ utf32-decided (g.D.BidiDataSource.source c.args.data_source.now) c.args.full c.args.text.now n front over

pub returns-clause-decided : goal.returns-clause-decided
returns-clause-decided g c =
    λ n front over. returns-clause-direction g c ∙ utf32-decided (g.D.BidiDataSource.source c.args.data_source.now) c.args.full c.args.text.now n front over

pub returns-then-not-is_scalar-clause-decided : goal.returns-then-not-is_scalar-clause-decided
returns-then-not-is_scalar-clause-decided g c =
    λ n front over. returns-then-not-is_scalar-clause-direction g c ∙ utf32-decided (g.D.BidiDataSource.source c.args.data_source.now) c.args.full c.args.text.now n front over
