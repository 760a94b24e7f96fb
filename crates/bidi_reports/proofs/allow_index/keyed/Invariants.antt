use Rattle.std.proofs.Common.{◌≡◌, ◌++◌, map, drop, string_bytes}
use Rattle.bidi_reports.specs.AllowIndex.{keyed_from}
use Rattle.bidi_reports.proofs.allow_index.keyed.Given as goal

abbrev pub invariant-loop-index : goal.invariant-loop-index
invariant-loop-index l = keyed_from 0 l.entries ≡ map (λ p. (string_bytes p.0, p.1)) l.pairs.items ++ keyed_from l.index (drop l.index l.entries)
