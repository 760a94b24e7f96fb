use Rattle.bidi_base.proofs.Common.{◌≡◌, map, drop, list_any, string_bytes}
use Rattle.bidi_arguments.specs.Checks.{is_input}
use Rattle.bidi_arguments.proofs.check_options.has_input.Given as goal

abbrev pub invariant-loop-file : goal.invariant-loop-file
invariant-loop-file l = list_any is_input (map string_bytes l.files) ≡ list_any is_input (map string_bytes (drop l.file-index l.files))
