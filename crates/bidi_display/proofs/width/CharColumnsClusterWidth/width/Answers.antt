use Rattle.bidi_base.proofs.Common.{◌≡◌, ap, sym, ◌∙◌, map-id, fold_push, arith, YieldsList-from_chars, YieldsList-end}
use Rattle.bidi_display.specs.DisplayedLine.{add_columns}
use Rattle.bidi_display.specs.Widths.{columns, sum_of_columns}
use Rattle.bidi_display.proofs.width.CharColumnsClusterWidth.width.Goals as goal

pub loop-c-preserved : goal.loop-c-preserved
loop-c-preserved c =
    let wide = c.args.self.now.wide_ambiguous in
    let step : c.saturating_add-width.result ≡ add_columns c.loop-c.width (columns wide c.in-Some.c) = omega (arith, c.columns.ensures) in
    step ∙ ap (λ sum. add_columns sum (columns wide c.in-Some.c)) c.loop-c.invariant
    ∙ sym (fold_push (λ sum x. add_columns sum (columns wide x)) 0 c.loop-c.yielded c.in-Some.c)

pub returns : goal.returns
returns c =
    let end = YieldsList-end (YieldsList-from_chars c.args.cluster.now c.utf8.cluster cc) c.loop-c.yielded _ c.loop-c.yielded_by _ _ c.in-None.is c.next.ensures.steps in
    c.loop-c.invariant ∙ ap (sum_of_columns c.args.self.now.wide_ambiguous) (sym (map-id c.loop-c.yielded) ∙ end.0)
