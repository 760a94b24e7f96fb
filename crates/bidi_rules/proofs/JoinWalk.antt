-- The walk for N1 over the runs of a sequence.
use Rattle.bidi_base.proofs.Common.{◌≡◌, ℕ, ◌+◌, ◌<◌, ◌≤◌, Bool, true, false, List, length, map, get_or, drop, Some, arith, add-one, inl, inr, ◌⊎◌, cases_Bool}
use Rattle.bidi_base.proofs.Common.{as_direction, has_direction, is_kept_in_place, is_l_or_r, stands_for, n1_n2, n2_rule, at_indexes, class_at, in_runs}
use Rattle.bidi_base.specs.declared.char_data.BidiClass.{BidiClass}
use Rattle.bidi_base.specs.declared.char_data.BidiClass.TheVariants.{L}
use Rattle.bidi_rules.specs.JoinPass.{side_before, units_of, Unjoined, IsAtOpposite, IsJoined, IsUnderWay}
use Rattle.bidi_rules.specs.PairPass.{opposite_of}
use Rattle.bidi_explicit.specs.SequenceUnits.{is_seen, IsWrittenOver}
use Rattle.bidi_rules.specs.declared.neutral.directions.Join.{Join}
use Rattle.bidi_explicit.proofs.InRuns.{in_runs-at, in_runs-drop, start_or, gap_before, gap_after, next_start}
use Rattle.bidi_rules.proofs.JoinScan.{opposite-directed, own-after, IsJoined-more, IsJoined-inert, IsJoined-turned}
use Rattle.bidi_rules.proofs.JoinScan.{IsJoined-decided, IsJoined-stretch, finished-inert, finished-embedding, finished-opposite}
use Rattle.bidi_base.proofs.UpdatedLemmas.{IsUpdated-same_test}

-- a direction other than the opposite one is the embedding direction
other-embedding : (e c : BidiClass) → is_l_or_r e ≡ true → has_direction c ≡ true → stands_for (opposite_of e) c ≡ false → as_direction c ≡ Some e
other-embedding e c side h n = grind arith

module _ (s : Unjoined) (now : List BidiClass) (w : Join) where
  -- what is written to what waits
  over-old : (at : ℕ) (new : List BidiClass) (u : IsUnderWay s now w at) → w.waits ≡ true
      → IsWrittenOver (is_seen (drop w.first_run s.runs) now) (opposite_of s.e) w.first at now new
      → IsWrittenOver (is_seen s.runs s.old) (opposite_of s.e) u.done at now new
  over-old at new u waiting over =
      let n = u.named waiting in
      IsUpdated-same_test L (is_seen (drop w.first_run s.runs) now) (λ c. opposite_of s.e) u.done now (is_seen s.runs s.old) at new (λ k a b. cc (n.reached k a, u.joined.unwritten k a)) (simp n.first at over)

  module _ (at end : ℕ) (inside : (k : ℕ) → at ≤ k → k < end → in_runs s.runs k ≡ true) (fits : end ≤ length s.old) (u : IsUnderWay s now w at) where
    -- more neutrals wait
    IsUnderWay-more : (next : ℕ) → at ≤ next → next ≤ end → ((k : ℕ) → at ≤ k → k < next → has_direction (class_at now k) ≡ false) → IsUnderWay s now w next
    IsUnderWay-more next from upto none = grind arith

    -- it comes, and is written to what waits
    pub IsAtOpposite-decided : (new : List BidiClass) (next : ℕ) → at ≤ next → next < end
        → ((k : ℕ) → at ≤ k → k < next → has_direction (class_at now k) ≡ false) → stands_for (opposite_of s.e) (class_at now next) ≡ true
        → w.waits ≡ true
        → IsWrittenOver (is_seen (drop w.first_run s.runs) now) (opposite_of s.e) w.first next now new → IsAtOpposite s new w next end
    IsAtOpposite-decided new next from below none is waiting over =
        let more = IsUnderWay-more next from (omega arith) none in
        let j : IsJoined s now true more.done next = simp waiting at more.joined in
        grind (
          arith,
          opposite-directed s.e (class_at now next) is,
          IsJoined-decided s now new more.done next,
          inside next,
          over-old next new more waiting over,
        )

    -- the embedding direction comes
    pub IsUnderWay-turned : (next : ℕ) → at ≤ next → next < end → ((k : ℕ) → at ≤ k → k < next → has_direction (class_at now k) ≡ false)
        → has_direction (class_at now next) ≡ true → stands_for (opposite_of s.e) (class_at now next) ≡ false → w.waits ≡ true
        → IsJoined s now false next next
    IsUnderWay-turned next from below none is other waiting =
        let more = IsUnderWay-more next from (omega arith) none in
        grind (arith, IsJoined-turned s now more.done next, inside next, other-embedding s.e (class_at now next))

-- nothing waits
pub IsAtOpposite-inert : (s : Unjoined) (now : List BidiClass) (w : Join) (done from next end : ℕ) → IsJoined s now false done from → w.waits ≡ false → from ≤ next → next ≤ end → end ≤ length s.old
    → ((k : ℕ) → from ≤ k → k < next → stands_for (opposite_of s.e) (class_at now k) ≡ false) → (next < end → stands_for (opposite_of s.e) (class_at now next) ≡ true) → IsAtOpposite s now w next end
IsAtOpposite-inert s now w done from next end j idle low high fits none is = grind (
  arith,
  IsJoined-inert s now done from next,
  j.unwritten,
)

-- a stretch of it, with BN among it
pub IsUnderWay-stretch : (s : Unjoined) (now : List BidiClass) (w : Join) (waits : Bool) (run at next : ℕ) → w.waits ≡ true
    → w.first ≡ next → w.first_run ≡ run → run < length s.runs → (get_or s.runs run (0, 0)).0 ≤ at → next ≤ (get_or s.runs run (0, 0)).1
    → next ≤ length s.old → at < next → stands_for (opposite_of s.e) (class_at now at) ≡ true
    → ((k : ℕ) → at ≤ k → k < next → is_kept_in_place (class_at now k) ≡ true → stands_for (opposite_of s.e) (class_at now k) ≡ true) → IsJoined s now waits at at → IsUnderWay s now w next
IsUnderWay-stretch s now w waits run at next waiting first_is run_is fits from upto within some here all j =
    let seen : (k : ℕ) → at ≤ k → k < next → is_seen s.runs s.old k ≡ true → stands_for (opposite_of s.e) (class_at s.old k) ≡ true =
    λ k a b is. grind (arith, j.unwritten k a, all k a b) in
    grind (arith, in_runs-drop, IsJoined-stretch s now waits at next, in_runs-at run s.runs at, j.unwritten at, seen)

-- ---- between runs

module _ (s : Unjoined) where
  abbrev size : ℕ
  size = length s.old

  -- after a run
  pub IsUnderWay-gap : (now : List BidiClass) (w : Join) (run : ℕ) → run < length s.runs → (get_or s.runs run (0, 0)).1 ≤ size
      → IsUnderWay s now w (get_or s.runs run (0, 0)).1 → IsUnderWay s now w (start_or s.runs (run + 1) size)
  IsUnderWay-gap now w run here within u =
      grind (arith, add-one run, IsJoined-more, next_start 0 run s.runs size s.ordered here within, λ (k : ℕ). gap_after 0 run s.runs k size s.ordered here)

  -- before the first one
  pub IsUnderWay-start : (w : Join) → side_before s w.waits ≡ s.sos → w.first ≡ 0 → w.first_run ≡ 0 → IsUnderWay s s.old w (start_or s.runs 0 size)
  IsUnderWay-start w before first_is run_is = grind (arith, gap_before)

  -- ---- after the last run

  -- the classes that N1 leaves for N2, once what waits is resolved by the direction at the end
  pub record IsFinished (new : List BidiClass) : Type 0 where
    pub answers : map (n2_rule s.e) (at_indexes L new (units_of s 0 size)) ≡ n1_n2 s.e s.sos s.eos (at_indexes L s.old (units_of s 0 size))
    pub unseen : (k : ℕ) → is_seen s.runs s.old k ≡ false → class_at new k ≡ class_at s.old k
    pub own : (k : ℕ) → (class_at new k ≡ class_at s.old k) ⊎ (class_at new k ≡ opposite_of s.e)

  pub IsFinished-embedding : (now : List BidiClass) (w : Join) → is_l_or_r s.eos ≡ true → stands_for (opposite_of s.e) s.eos ≡ false → IsUnderWay s now w size → IsFinished now
  IsFinished-embedding now w side other u = grind (arith, finished-embedding, finished-inert)

  pub IsFinished-opposite : (now new : List BidiClass) (w : Join) → is_l_or_r s.eos ≡ true → stands_for (opposite_of s.e) s.eos ≡ true
      → (w.waits ≡ true → IsWrittenOver (is_seen (drop w.first_run s.runs) now) (opposite_of s.e) w.first size now new) → (w.waits ≡ false → new ≡ now) → IsUnderWay s now w size → IsFinished new
  IsFinished-opposite now new w side is held idle u = elim (cases_Bool w.waits) [
    | inl yes' ↦
        let over = over-old s now w size new u yes' (held yes') in
        grind (
          arith,
          finished-opposite s now new u.done,
          over,
          u.joined,
          own-after (is_seen s.runs s.old) (opposite_of s.e) u.done size s.old now new,
        )
    | inr no' ↦ grind (arith, finished-inert)
  ]
