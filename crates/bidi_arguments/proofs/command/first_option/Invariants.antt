use Rattle.bidi_base.proofs.Common.{◌≡◌, map, drop, string_bytes, find}
use Rattle.bidi_arguments.specs.Options.{is_option}
use Rattle.bidi_arguments.proofs.command.first_option.Given as goal

abbrev pub invariant-loop-word : goal.invariant-loop-word
invariant-loop-word l = find is_option (map string_bytes l.words) ≡ find is_option (map string_bytes (drop l.word-index l.words))
