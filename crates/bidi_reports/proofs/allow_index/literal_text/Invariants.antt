use Rattle.std.proofs.Common.{◌≡◌, ◌++◌, drop, option_map, string_bytes}
use Rattle.bidi_reports.specs.AllowIndex.{literal_text}
use Rattle.bidi_reports.proofs.allow_index.literal_text.Given as goal

abbrev pub invariant-loop-part : goal.invariant-loop-part
invariant-loop-part l = literal_text l.parts ≡ option_map (λ more. string_bytes l.text ++ more) (literal_text (drop l.part-index l.parts))
