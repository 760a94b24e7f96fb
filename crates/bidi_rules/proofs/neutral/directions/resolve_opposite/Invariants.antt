-- The runs that came are read.
use Rattle.bidi_base.proofs.Common.{◌≡◌, ◌≤◌, length, map, bounds}
use Rattle.bidi_rules.specs.JoinPass.{IsUnderWay, Unjoined}
use Rattle.bidi_rules.specs.PairPass.{opposite_of}
use Rattle.bidi_explicit.proofs.InRuns.{start_or}
use Rattle.bidi_rules.proofs.neutral.directions.resolve_opposite.Given as goal

abbrev pub invariant-loop-run : goal.invariant-loop-run
invariant-loop-run l =
    let d = l.fn.directions in
    record {
      first_run : l.join.first_run ≤ length l.runs;
      opposite : l.join.opposite ≡ opposite_of d.embedding;
      long : length l.classes ≡ length l.fn.classes;
      reads : (s : Unjoined) → s.runs ≡ map bounds l.runs → s.e ≡ d.embedding → s.sos ≡ d.sos → s.old ≡ l.fn.classes
          → IsUnderWay s l.classes l.join (start_or (map bounds l.runs) l.run (length l.fn.classes));
    }
