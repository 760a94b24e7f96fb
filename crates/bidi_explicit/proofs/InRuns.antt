-- The units in some ranges that are in order.
use Rattle.bidi_base.proofs.Common.{◌≡◌, ℕ, zero, suc, ◌+◌, ◌<◌, ◌≤◌, Bool, true, false, ◌&&◌, ◌||◌, leb, ltb, List, [], ◌∷◌, length, get_or, take, drop, refl, arith, All, and_from, and_left}
use Rattle.bidi_base.proofs.Common.{and_right, le-leb, list_any_at, are_ordered_from, in_runs, lt-ltb, le-ltb}
use Rattle.std.proofs.lemmas.Bool.{lt-leb}
use Rattle.std.proofs.lemmas.List.Folds.{list_any_more}
use Rattle.bidi_explicit.proofs.WalkLemmas.{are_ordered-front}

-- one range
abbrev pub in_run : ℕ × ℕ → ℕ → Bool
in_run r k = leb r.0 k && ltb k r.1

pub in_run-inside : (r : ℕ × ℕ) (k : ℕ) → r.0 ≤ k → k < r.1 → in_run r k ≡ true
in_run-inside r k from below = and_from _ _ (le-leb r.0 k from) (lt-ltb k r.1 below)

pub in_run-below : (r : ℕ × ℕ) (k : ℕ) → k < r.0 → in_run r k ≡ false
in_run-below r k below = and_left (leb r.0 k) (ltb k r.1) (lt-leb r.0 k below)

pub in_run-above : (r : ℕ × ℕ) (k : ℕ) → r.1 ≤ k → in_run r k ≡ false
in_run-above r k above = and_right (leb r.0 k) (ltb k r.1) (le-ltb k r.1 above)

pub in_run-true : (r : ℕ × ℕ) (k : ℕ) → in_run r k ≡ true → (r.0 ≤ k) × (k < r.1)
in_run-true r k h = grind arith steps 400000

-- some ranges
pub in_runs-below : (low : ℕ) (runs : List (ℕ × ℕ)) (k : ℕ) → are_ordered_from low runs ≡ true → k < low → in_runs runs k ≡ false
in_runs-below low [] k h below = refl
in_runs-below low (r ∷ runs) k h below = grind (arith, are_ordered-front low r runs h, in_run-below r k, in_runs-below r.1 runs k)

-- the ranges in order begin one after another
pub start_after : (end index : ℕ) (runs : List (ℕ × ℕ)) → are_ordered_from end runs ≡ true → index < length runs → end ≤ (get_or runs index (0, 0)).0
start_after end index [] h fits = absurd (omega arith)
start_after end zero (r ∷ runs) h fits = (are_ordered-front end r runs h).from
start_after end (suc index) (r ∷ runs) h fits = grind (arith, are_ordered-front end r runs h, start_after r.1 index runs)

-- from a unit on that the ranges before `index` do not reach
pub in_runs-drop : (low index : ℕ) (runs : List (ℕ × ℕ)) (k : ℕ) → are_ordered_from low runs ≡ true → index < length runs
    → (get_or runs index (0, 0)).0 ≤ k → in_runs (drop index runs) k ≡ in_runs runs k
in_runs-drop low zero runs k h fits from = refl
in_runs-drop low (suc index) [] k h fits from = refl
in_runs-drop low (suc index) (r ∷ runs) k h fits from =
    grind (arith, are_ordered-front low r runs h, start_after r.1 index runs, in_run-above r k, in_runs-drop r.1 index runs k)

-- up to a unit at which the range at `index` has not begun
pub in_runs-take : (low index : ℕ) (runs : List (ℕ × ℕ)) (k : ℕ) → are_ordered_from low runs ≡ true → index < length runs
    → k < (get_or runs index (0, 0)).0 → in_runs (take index runs) k ≡ in_runs runs k
in_runs-take low index [] k h fits before = absurd (omega arith)
in_runs-take low zero (r ∷ runs) k h fits before = grind (arith, in_runs-below)
in_runs-take low (suc index) (r ∷ runs) k h fits before = grind (arith, are_ordered-front low r runs h, in_runs-take r.1 index runs k)

pub in_runs-more : (index : ℕ) (runs : List (ℕ × ℕ)) (k : ℕ) → index < length runs → in_runs (take (index + 1) runs) k ≡ (in_runs (take index runs) k || in_run (get_or runs index (0, 0)) k)
in_runs-more index runs k fits = list_any_more (λ (r : ℕ × ℕ). in_run r k) runs index (0, 0) fits

pub in_runs-at : (index : ℕ) (runs : List (ℕ × ℕ)) (k : ℕ) → index < length runs → (get_or runs index (0, 0)).0 ≤ k → k < (get_or runs index (0, 0)).1 → in_runs runs k ≡ true
in_runs-at index runs k fits from below = grind (arith, list_any_at) steps 400000

-- the ranges in order, one after another
pub run_some : (low index : ℕ) (runs : List (ℕ × ℕ)) → are_ordered_from low runs ≡ true → index < length runs → (get_or runs index (0, 0)).0 < (get_or runs index (0, 0)).1
run_some low index [] h fits = absurd (omega arith)
run_some low zero (r ∷ runs) h fits = (are_ordered-front low r runs h).not_empty
run_some low (suc index) (r ∷ runs) h fits = run_some r.1 index runs (are_ordered-front low r runs h).later (omega arith)

-- the start of the range at `index`, or n where there is none
abbrev pub start_or : List (ℕ × ℕ) → ℕ → ℕ → ℕ
start_or [] index n = n
start_or (r ∷ runs) zero n = r.0
start_or (r ∷ runs) (suc index) n = start_or runs index n

pub start_or-at : (runs : List (ℕ × ℕ)) (index n : ℕ) → index < length runs → start_or runs index n ≡ (get_or runs index (0, 0)).0
start_or-at [] index n fits = absurd (omega arith)
start_or-at (r ∷ runs) zero n fits = refl
start_or-at (r ∷ runs) (suc index) n fits = start_or-at runs index n (omega arith)

pub start_or-past : (runs : List (ℕ × ℕ)) (index n : ℕ) → length runs ≤ index → start_or runs index n ≡ n
start_or-past [] index n past = refl
start_or-past (r ∷ runs) zero n past = absurd (omega arith)
start_or-past (r ∷ runs) (suc index) n past = start_or-past runs index n (omega arith)

-- between the end of a range and the start of the next stands no unit of the ranges
pub gap_before : (low : ℕ) (runs : List (ℕ × ℕ)) (k n : ℕ) → are_ordered_from low runs ≡ true → k < start_or runs 0 n → in_runs runs k ≡ false
gap_before low [] k n h before = refl
gap_before low (r ∷ runs) k n h before = grind (arith, in_runs-below)

pub gap_after : (low index : ℕ) (runs : List (ℕ × ℕ)) (k n : ℕ) → are_ordered_from low runs ≡ true → index < length runs
    → (get_or runs index (0, 0)).1 ≤ k → k < start_or runs (suc index) n → in_runs runs k ≡ false
gap_after low index [] k n h fits past before = absurd (omega arith)
gap_after low zero (r ∷ runs) k n h fits past before = grind (arith, are_ordered-front low r runs h, in_run-above r k, gap_before r.1 runs k n)
gap_after low (suc index) (r ∷ runs) k n h fits past before =
    grind (arith, are_ordered-front low r runs h, start_after r.1 index runs, run_some r.1 index runs, in_run-above r k, gap_after r.1 index runs k n)

-- a range ends where the next one starts, or before
pub next_start : (low index : ℕ) (runs : List (ℕ × ℕ)) (n : ℕ) → are_ordered_from low runs ≡ true → index < length runs
    → (get_or runs index (0, 0)).1 ≤ n → (get_or runs index (0, 0)).1 ≤ start_or runs (suc index) n
next_start low index [] n h fits within = absurd (omega arith)
next_start low zero (r ∷ []) n h fits within = within
next_start low zero (r ∷ q ∷ runs) n h fits within = (are_ordered-front r.1 q runs (are_ordered-front low r (q ∷ runs) h).later).from
next_start low (suc index) (r ∷ runs) n h fits within = next_start r.1 index runs n (are_ordered-front low r runs h).later (omega arith) within

pub start_within : (runs : List (ℕ × ℕ)) (index n : ℕ) → are_ordered_from 0 runs ≡ true → All (λ (r : ℕ × ℕ). r.1 ≤ n) runs → start_or runs index n ≤ n
start_within runs index n ordered within = grind (arith, run_some, start_or-at, start_or-past)
