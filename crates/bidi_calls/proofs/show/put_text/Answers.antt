use Rattle.bidi_lines.proofs.RunLengths.{visual_runs-whole}
use Rattle.bidi_lines.proofs.TextOfLine.{runs_begin}
use Rattle.bidi_calls.proofs.show.put_text.Goals as goal

pub write_runs-requires-clause-within : goal.write_runs-requires-clause-within
write_runs-requires-clause-within g c = runs_begin 0 c.args.levels.now c.args.runs.now c.requires.visual

pub write_runs-requires-clause-whole : goal.write_runs-requires-clause-whole
write_runs-requires-clause-whole g c = visual_runs-whole 0 c.args.levels.now c.args.runs.now c.requires.visual
