use Rattle.std.proofs.Common.{◌≡◌, ◌++◌, map, drop, option_map}
use Rattle.bidi_reports.specs.Entries.{kinds_named}
use Rattle.bidi_reports.proofs.entry.kinds_named.Given as goal

abbrev pub invariant-loop-name : goal.invariant-loop-name
invariant-loop-name l =
    kinds_named (map (λ name. name.now) l.names) ≡ option_map (λ more. l.kinds.items ++ more) (kinds_named (map (λ name. name.now) (drop l.name-index l.names)))
