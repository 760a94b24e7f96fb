use Rattle.bidi_base.proofs.Common.{length}
use Rattle.bidi_arguments.proofs.command.Command.+parse_show.Given as goal

abbrev pub decreases-parse_show : goal.decreases-parse_show
decreases-parse_show l = length l.words.now
