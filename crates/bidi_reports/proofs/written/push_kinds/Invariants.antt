use Rattle.std.proofs.Common.{◌≡◌, ◌++◌, flat_map, string_bytes, take}
use Rattle.bidi_reports.specs.Written.{later_kind}
use Rattle.bidi_reports.proofs.written.push_kinds.Given as goal

abbrev pub invariant-loop-kind : goal.invariant-loop-kind
invariant-loop-kind l = string_bytes l.out ≡ string_bytes l.initial.out ++ flat_map later_kind (take l.kind-index l.others)
