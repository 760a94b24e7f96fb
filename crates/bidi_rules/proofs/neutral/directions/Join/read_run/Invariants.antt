-- The units of the run that came are read.
use Rattle.bidi_base.proofs.Common.{◌≡◌, ◌-◌, ◌≤◌, length, map, get_or, bounds}
use Rattle.bidi_rules.specs.JoinPass.{IsUnderWay, Unjoined}
use Rattle.bidi_rules.specs.PairPass.{opposite_of}
use Rattle.bidi_rules.proofs.neutral.directions.Join.read_run.Given as goal

abbrev pub invariant-loop-at : goal.invariant-loop-at
invariant-loop-at l =
    let r = get_or (map bounds l.runs) l.run (0, 0) in
    record {
      starts : r.0 ≤ l.at;
      ends : l.at ≤ l.end;
      end : l.end ≡ r.1;
      long : length l.classes ≡ length l.fn.classes;
      first_run : l.self.first_run ≤ length l.runs;
      opposite : l.self.opposite ≡ l.fn.self.opposite;
      reads : (s : Unjoined) → s.runs ≡ map bounds l.runs → opposite_of s.e ≡ l.fn.self.opposite → IsUnderWay s l.fn.classes l.fn.self r.0 → IsUnderWay s l.classes l.self l.at;
    }

abbrev pub decreases-loop-at : goal.decreases-loop-at
decreases-loop-at l = l.end - l.at
