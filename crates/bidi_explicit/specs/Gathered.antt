-- An isolating run sequence, as indexes into a list of level runs.
use Rattle.std.specs.Prelude.{◌≡◌, ℕ, ◌-◌, ◌≤◌, IsTrue, List, length, map, take, drop}
use Rattle.std.specs.declared.ops.Range.{Range}
use Rattle.bidi_base.specs.Units.{bounds, is_run_sequence}
use Rattle.bidi_explicit.specs.Joining.{JoinedRuns}
use Rattle.bidi_explicit.specs.declared.prepare.gathered.GatheredSequence.{GatheredSequence}

-- the sequence with the runs at these indexes of a list
abbrev pub gathered_in : GatheredSequence → List (Range ℕ) → JoinedRuns
gathered_in s runs = record { runs = map bounds (take (s.end - s.start) (drop s.start runs)); sos = s.sos; eos = s.eos }

-- the list has the runs of this sequence at these indexes, and the passes can read it
pub record IsGatheredIn (s : GatheredSequence) (runs : List (Range ℕ)) (sequence : JoinedRuns) : Type 0 where
  pub ordered : s.start ≤ s.end
  pub inside : s.end ≤ length runs
  pub is : gathered_in s runs ≡ sequence
  pub well_formed : IsTrue (is_run_sequence (gathered_in s runs).runs s.sos s.eos)
