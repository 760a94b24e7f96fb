use Rattle.bidi_base.proofs.Common.{ap, ◌∙◌, arith, length, length-map, Ok, Err, Result, OnOk}
use Rattle.bidi_lines.proofs.FoundRuns.{runs_within, visual_runs-found}
use Rattle.bidi_lines.proofs.VisualRuns.{order_below}
use Rattle.bidi_lines.proofs.visual_runs.copy_visual.Goals as goal

pub write_numbers-requires-clause-within : goal.write_numbers-requires-clause-within
write_numbers-requires-clause-within c = runs_within c.args.start c.args.levels.now c.args.runs.now c.requires.runs

pub copy_in_order-requires : goal.copy_in_order-requires
copy_in_order-requires c =
    order_below c.write_numbers.new.numbers c.write_visual_order.new.order (length c.args.runs.now)
    (ap length c.write_numbers.ensures ∙ length-map _ _ ∙ length-map _ _) c.write_visual_order.ensures.visual

-- what holds where the call went well follows from what it gives
found : {A E P Q : Type 0} (result : Result A E) → (P → Q) → OnOk result P → OnOk result Q
found (Ok x) step given = step given
found (Err e) step given = tt

pub returns-clause-runs : goal.returns-clause-runs
returns-clause-runs c = found c.copy_in_order.result (λ same. grind (arith, visual_runs-found)) c.copy_in_order.ensures.runs
