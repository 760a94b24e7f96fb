use Rattle.std.proofs.Common.{◌∙◌, sym}
use Rattle.bidi_reports.proofs.glob.take_part.Goals as goal

pub returns-then-repeats : goal.returns-then-repeats
returns-then-repeats c = λ rest before. rw (sym c.repeats.ensures ∙ c.if-repeats.true) (c.take_many.ensures rest before)

pub returns-else-repeats : goal.returns-else-repeats
returns-else-repeats c = λ rest before. rw (sym c.repeats.ensures ∙ c.if-repeats.false) (c.take_one.ensures rest before)
