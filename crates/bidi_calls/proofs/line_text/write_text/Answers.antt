use Rattle.bidi_base.proofs.Common.{◌∙◌}
use Rattle.std.proofs.lemmas.Result.{on_ok_weaker}
use Rattle.bidi_calls.proofs.CallerText.{caller-is_line, caller-runs, caller-text}
use Rattle.bidi_calls.specs.CallerLine.{caller_line_levels}
use Rattle.bidi_calls.proofs.line_text.write_text.Goals as goal

pub write_line-requires-clause-is_line : goal.write_line-requires-clause-is_line
write_line-requires-clause-is_line g c =
    rw c.requires.room (caller-is_line g.T.TextSource.encoding.len_of g.T.TextSource.encoding.positive (g.T.TextSource.text c.args.text).chars c.args.line.now c.requires.valid c.requires.per_char c.requires.same_len)

pub write_line-requires-clause-runs : goal.write_line-requires-clause-runs
unfolding caller_line_levels
write_line-requires-clause-runs g c =
    rw (c.level.ensures, c.new-classes.ensures, c.class_numbers.ensures, c.level_numbers-levels.ensures)
    (caller-runs g.T.TextSource.encoding.len_of g.T.TextSource.encoding.positive (g.T.TextSource.text c.args.text).chars c.args.line.now c.requires.valid c.requires.per_char c.requires.same_len)

pub returns-clause-text : goal.returns-clause-text
unfolding caller_line_levels
returns-clause-text g c =
    let cs = (g.T.TextSource.text c.args.text).chars in
    on_ok_weaker c.write_line.result
    (λ e. e ∙ caller-text g.T.TextSource.encoding.len_of g.T.TextSource.encoding.positive cs c.args.line.now c.requires.valid c.requires.per_char c.requires.same_len g.T.LineText.encode (g.T.LineText.units_of c.args.text))
    (rw (c.level.ensures, c.new-classes.ensures, c.class_numbers.ensures, c.level_numbers-levels.ensures) at c.write_line.ensures.text)
