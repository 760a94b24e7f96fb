-- Searches through runs for a direction, forwards and backwards.
use Rattle.bidi_base.proofs.Common.{◌≡◌, ℕ, ◌+◌, ◌<◌, ◌≤◌, true, false, List, length, map, get_or, take, drop, Some, None, ap, ◌∙◌, arith, inl, common_steps}
use Rattle.bidi_base.proofs.Common.{Range, get_or-map, length-map, drop_more, as_direction, stands_for, class_at, bounds, are_ordered, in_runs}
use Rattle.bidi_base.specs.declared.char_data.BidiClass.{BidiClass}
use Rattle.bidi_rules.specs.PairPass.{IsFirstFor, IsNearestBefore}
use Rattle.bidi_explicit.proofs.InRuns.{in_runs-at, in_runs-drop, in_runs-take}
use Rattle.bidi_explicit.proofs.WalkLemmas.{no_range}

module _ (runs : List (Range ℕ)) (i : ℕ) (here : i < length runs) where
  abbrev rs : List (ℕ × ℕ)
  rs = map bounds runs

  abbrev r : Range ℕ
  r = get_or runs i no_range

  fit : i < length rs
  fit = omega (arith, length-map runs bounds)

  run_is : get_or rs i (0, 0) ≡ bounds r
  run_is = get_or-map bounds runs i no_range (0, 0) here

  begins : (get_or rs i (0, 0)).0 ≡ r.start
  begins = ap (λ (q : ℕ × ℕ). q.0) run_is

  ends : (get_or rs i (0, 0)).1 ≡ r.end
  ends = ap (λ (q : ℕ × ℕ). q.1) run_is

  -- a property of the units of the runs so far, and of those of the run that came
  pub every-more : (P : ℕ → Type 0) → ((k : ℕ) → in_runs (take i rs) k ≡ true → P k) → ((k : ℕ) → r.start ≤ k → k < r.end → P k) → (k : ℕ) → in_runs (take (i + 1) rs) k ≡ true → P k
  every-more P before new k inside = grind (arith, common_steps, ends)

  -- the same of those after
  pub every-later : (P : ℕ → Type 0) → ((k : ℕ) → in_runs (drop (i + 1) rs) k ≡ true → P k) → ((k : ℕ) → r.start ≤ k → k < r.end → P k) → (k : ℕ) → in_runs (drop i rs) k ≡ true → P k
  every-later P behind new k inside = grind (arith, drop_more, fit, begins, ends)

  pub in-here : (u : ℕ) → r.start ≤ u → u < r.end → in_runs rs u ≡ true
  in-here u from upto = in_runs-at i rs u fit (omega (arith, begins)) (omega (arith, ends))

  module _ (ordered : are_ordered rs ≡ true) where
    pub earlier-here : (u : ℕ) → u < r.start → in_runs rs u ≡ true → in_runs (take i rs) u ≡ true
    earlier-here u low inside = in_runs-take 0 i rs u ordered fit (omega (arith, begins)) ∙ inside

    -- a unit of the run below which none passes
    pub IsFirstFor-here : (d : BidiClass) (classes : List BidiClass) (from to u : ℕ) → ((k : ℕ) → in_runs (take i rs) k ≡ true → from ≤ k → k < to → stands_for d (class_at classes k) ≡ false)
        → ((k : ℕ) → from ≤ k → r.start ≤ k → k < u → stands_for d (class_at classes k) ≡ false) → from ≤ u → u < to → r.start ≤ u → u < r.end → stands_for d (class_at classes u) ≡ true → IsFirstFor d rs classes from to u
    IsFirstFor-here d classes from to u earlier new after below from_start upto is = grind (arith, earlier-here, in-here)

    pub IsNearestBefore-here : (before d : BidiClass) (classes : List BidiClass) (to u : ℕ) → ((k : ℕ) → in_runs (drop (i + 1) rs) k ≡ true → k < to → as_direction (class_at classes k) ≡ None)
        → ((k : ℕ) → u < k → k < r.end → k < to → as_direction (class_at classes k) ≡ None) → u < to → r.start ≤ u → u < r.end → as_direction (class_at classes u) ≡ Some d → IsNearestBefore before rs classes to d
    IsNearestBefore-here before d classes to u later new below from_start upto is =
        inl (
          u,
          below,
          in-here u from_start upto,
          is,
          λ k a b inside.
              every-later (λ k. u < k → k < to → as_direction (class_at classes k) ≡ None) (λ k old a b. later k old b) (λ k s e a b. new k a e b) k
              (in_runs-drop 0 i rs k ordered fit (omega (arith, begins)) ∙ inside) (omega arith) b,
        )
