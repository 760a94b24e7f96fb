use Rattle.bidi_base.proofs.Common.{◌∙◌, arith}
use Rattle.bidi_calls.proofs.RunStructs.{structs-moved, length-structs, runs_within}
use Rattle.bidi_calls.proofs.run_structs.put_runs.Goals as goal

pub write_structs-requires-clause-within : goal.write_structs-requires-clause-within
write_structs-requires-clause-within c = runs_within c.args.levels.now c.args.runs.now c.requires.visual

pub returns-then-not-is_empty : goal.returns-then-not-is_empty
returns-then-not-is_empty c =
    let structs = c.write_structs.ensures ∙ structs-moved c.args.start c.args.levels.now c.args.runs.now c.requires.runs in
    let long = length-structs c.args.start c.args.levels.now c.args.runs.now c.requires.runs in
    rw (structs, long) (grind arith)
