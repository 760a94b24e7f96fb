use Rattle.std.proofs.Common.{◌≡◌, ◌++◌, ◌+◌, drop, map}
use Rattle.bidi_reports.specs.Allowed.{entries_from, first_wrong}
use Rattle.bidi_reports.proofs.allowed.entries_in.Given as goal

abbrev pub invariant-loop-index : goal.invariant-loop-index
invariant-loop-index l = record {
  entries : entries_from 1 (map (λ line. line.now) l.lines) ≡ l.entries.items ++ entries_from (l.index + 1) (map (λ line. line.now) (drop l.index l.lines));
  understood : first_wrong 1 (map (λ line. line.now) l.lines) ≡ first_wrong (l.index + 1) (map (λ line. line.now) (drop l.index l.lines));
}
