use Rattle.bidi_base.proofs.Common.{IsCharBoundary-start}
use Rattle.bidi_shown.proofs.printable.printable_len.Goals as goal

pub returns-then-is_some-clause-boundary : goal.returns-then-is_some-clause-boundary
returns-then-is_some-clause-boundary c = IsCharBoundary-start c.args.text.now c.utf8.text
