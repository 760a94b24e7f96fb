use Rattle.bidi_base.proofs.Common.{rules, refl, ap, sym, ◌∙◌, arith, length, per_char, visual_order}
use Rattle.bidi_lines.proofs.RunLengths.{length-visual_order}
use Rattle.bidi_calls.specs.CallerLine.{caller_line_levels}
use Rattle.bidi_calls.specs.LineText.{order_of_line}
use Rattle.bidi_calls.proofs.line_text.map_characters.Goals as goal

pub returns-in_err-check-clause-fault : goal.returns-in_err-check-clause-fault
unfolding order_of_line
returns-in_err-check-clause-fault g c =
    let levels = c.as_slice-levels.ensures ∙ c.keep_first_units.ensures ∙ ap (per_char 0 g.T.TextSource.encoding.len_of (g.T.TextSource.text c.args.text).chars) c.in_ok-after_l1.ensures.levels in
    let long = ap length levels ∙ sym (length-visual_order (per_char 0 g.T.TextSource.encoding.len_of (g.T.TextSource.text c.args.text).chars (caller_line_levels c.args.line.now))) in
    rw (← long) (grind arith)

pub returns-clause-fault : goal.returns-clause-fault
unfolding order_of_line
returns-clause-fault g c =
    let levels = c.as_slice-levels.ensures ∙ c.keep_first_units.ensures ∙ ap (per_char 0 g.T.TextSource.encoding.len_of (g.T.TextSource.text c.args.text).chars) c.in_ok-after_l1.ensures.levels in
    let long = ap length levels ∙ sym (length-visual_order (per_char 0 g.T.TextSource.encoding.len_of (g.T.TextSource.text c.args.text).chars (caller_line_levels c.args.line.now))) in
    rw (← long) (grind arith)

pub returns-clause-writes : goal.returns-clause-writes
unfolding order_of_line
returns-clause-writes g c =
    let levels = c.as_slice-levels.ensures ∙ c.keep_first_units.ensures ∙ ap (per_char 0 g.T.TextSource.encoding.len_of (g.T.TextSource.text c.args.text).chars) c.in_ok-after_l1.ensures.levels in
    let long = ap length levels ∙ sym (length-visual_order (per_char 0 g.T.TextSource.encoding.len_of (g.T.TextSource.text c.args.text).chars (caller_line_levels c.args.line.now))) in
    let order = c.write_visual_order.ensures.order ∙ ap visual_order levels in
    record { unchanged = search rules; list = rw (order, long) refl; count = long }
