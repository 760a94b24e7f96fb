use Rattle.bidi_lines.proofs.visual_order.least_above.Goals as goal

pub returns-clause-above : goal.returns-clause-above
returns-clause-above g c = c.least_of.ensures.above c.args.threshold c.stretch_end-end.ensures.above
