use Rattle.bidi_base.proofs.Common.{length}
use Rattle.bidi_arguments.proofs.command.Command.+parse_check.Given as goal

abbrev pub decreases-parse_check : goal.decreases-parse_check
decreases-parse_check l = length l.words.now
