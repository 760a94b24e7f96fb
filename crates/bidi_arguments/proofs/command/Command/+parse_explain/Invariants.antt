use Rattle.bidi_base.proofs.Common.{length}
use Rattle.bidi_arguments.proofs.command.Command.+parse_explain.Given as goal

abbrev pub decreases-parse_explain : goal.decreases-parse_explain
decreases-parse_explain l = length l.words.now
