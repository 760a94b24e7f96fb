-- N1 over the code units of a sequence, for the direction opposite to the embedding direction: what is done once some
-- of them are read.
use Rattle.std.specs.Prelude.{◌≡◌, ◌⊎◌, ℕ, ◌<◌, ◌≤◌, Bool, true, false, if◌then◌else◌, List, ◌++◌, length, map, filter, drop}
use Rattle.bidi_base.specs.declared.char_data.BidiClass.{BidiClass}
use Rattle.bidi_base.specs.declared.char_data.BidiClass.TheVariants.{L}
use Rattle.bidi_base.specs.Classes.{is_l_or_r, is_ni, is_weak_resolved, stands_for}
use Rattle.bidi_base.specs.Neutral.{n1_n2, n2_rule}
use Rattle.bidi_base.specs.Indexes.{at_indexes, between, class_at}
use Rattle.bidi_base.specs.Units.{are_ordered, in_runs}
use Rattle.bidi_rules.specs.PairPass.{opposite_of}
use Rattle.bidi_explicit.specs.SequenceUnits.{is_seen}
use Rattle.bidi_rules.specs.declared.neutral.directions.Join.{Join}

-- a sequence after N0
pub record Unjoined : Type 0 where
  pub runs : List (ℕ × ℕ)
  pub e : BidiClass
  pub sos : BidiClass
  pub eos : BidiClass
  pub old : List BidiClass
  pub ordered : are_ordered runs ≡ true
  pub side : is_l_or_r e ≡ true
  pub resolved : (u : ℕ) → is_seen runs old u ≡ true → is_weak_resolved (class_at old u) ≡ true

-- its code units from `low` up to `high` that are not BN
abbrev pub units_of : Unjoined → ℕ → ℕ → List ℕ
units_of s low high = filter (is_seen s.runs s.old) (between low high)

-- the direction before the code units that come next
abbrev pub side_before : Unjoined → Bool → BidiClass
side_before s waits = if waits then opposite_of s.e else s.e

-- before `done` N1 is done, and the code units from there up to `at` are neutrals or BN
pub record IsJoined (s : Unjoined) (now : List BidiClass) (waits : Bool) (done at : ℕ) : Type 0 where
  pub written : map (n2_rule s.e) (at_indexes L now (units_of s 0 done))
      ++ n1_n2 s.e (side_before s waits) s.eos (at_indexes L s.old (units_of s done (length s.old)))
      ≡ n1_n2 s.e s.sos s.eos (at_indexes L s.old (units_of s 0 (length s.old)))
  pub waiting : (k : ℕ) → done ≤ k → k < at → is_seen s.runs s.old k ≡ true → is_ni (class_at s.old k) ≡ true
  pub unwritten : (k : ℕ) → done ≤ k → class_at now k ≡ class_at s.old k
  pub unseen : (k : ℕ) → is_seen s.runs s.old k ≡ false → class_at now k ≡ class_at s.old k
  pub own : (k : ℕ) → (class_at now k ≡ class_at s.old k) ⊎ (class_at now k ≡ opposite_of s.e)
  pub order : done ≤ at
  pub long : length now ≡ length s.old

-- the neutrals that wait begin at `first`, and the runs from `first_run` on have all of them
pub record AreNamed (s : Unjoined) (w : Join) (done : ℕ) : Type 0 where
  pub first : w.first ≡ done
  pub reached : (k : ℕ) → done ≤ k → in_runs (drop w.first_run s.runs) k ≡ in_runs s.runs k
  pub fits : w.first_run ≤ length s.runs

-- the pass has read the code units before `at`
pub record IsUnderWay (s : Unjoined) (now : List BidiClass) (w : Join) (at : ℕ) : Type 0 where
  pub done : ℕ
  pub joined : IsJoined s now w.waits done at
  pub named : w.waits ≡ true → AreNamed s w done

-- the pass is at a code unit of the opposite direction, before which nothing waits, or at the end of the current run
pub record IsAtOpposite (s : Unjoined) (now : List BidiClass) (w : Join) (at end : ℕ) : Type 0 where
  pub there : at < end → IsJoined s now w.waits at at × (stands_for (opposite_of s.e) (class_at now at) ≡ true)
  pub ended : end ≤ at → IsUnderWay s now w at
