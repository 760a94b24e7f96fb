-- The run of a unit, and what is found in the runs from it on, or up to it.
use Rattle.bidi_base.proofs.Common.{◌≡◌, ℕ, zero, suc, ◌+◌, ◌<◌, ◌≤◌, ◌||◌, true, List, [], ◌∷◌, length, map, get_or, take, drop, refl, sym, ap, ◌∙◌, arith, take_all}
use Rattle.bidi_base.proofs.Common.{get_or-map, length-map, class_at, All, All-take, are_ordered, are_ordered_from, bounds, in_runs, Range, cases_Bool, inl, inr, subst, or_parts, both_ways}
use Rattle.bidi_base.specs.declared.char_data.BidiClass.{BidiClass}
use Rattle.bidi_base.specs.declared.char_data.BidiClass.TheVariants.{L}
use Rattle.bidi_base.specs.Updated.{IsUpdated}
use Rattle.bidi_base.proofs.UpdatedLemmas.{by_range}
use Rattle.bidi_explicit.proofs.WalkLemmas.{no_range, are_ordered-front}
use Rattle.bidi_explicit.proofs.InRuns.{in_run, in_run-true, in_run-inside, in_runs-more, in_run-above, in_runs-take, next_start, start_or-at}

low_end : (low : ℕ) (runs : List (ℕ × ℕ)) (j : ℕ) → are_ordered_from low runs ≡ true → j < length runs → low ≤ (get_or runs j (0, 0)).1
low_end low [] j h fits = absurd (omega arith)
low_end low (r ∷ runs) zero h fits = let f = are_ordered-front low r runs h in omega (arith, f.from, f.not_empty)
low_end low (r ∷ runs) (suc j) h fits = let f = are_ordered-front low r runs h in omega (arith, f.from, f.not_empty, low_end r.1 runs j f.later (omega arith))

pub ends-rise : (low : ℕ) (runs : List (ℕ × ℕ)) (i j : ℕ) → are_ordered_from low runs ≡ true → i ≤ j → j < length runs → (get_or runs i (0, 0)).1 ≤ (get_or runs j (0, 0)).1
ends-rise low [] i j h order fits = absurd (omega arith)
ends-rise low (r ∷ runs) zero zero h order fits = omega arith
ends-rise low (r ∷ runs) zero (suc j) h order fits = low_end r.1 runs j (are_ordered-front low r runs h).later (omega arith)
ends-rise low (r ∷ runs) (suc i) zero h order fits = absurd (omega arith)
ends-rise low (r ∷ runs) (suc i) (suc j) h order fits = ends-rise r.1 runs i j (are_ordered-front low r runs h).later (omega arith) (omega arith)

-- without the runs that end before a unit
pub in_runs-later : (index : ℕ) (runs : List (ℕ × ℕ)) (k : ℕ) → ((i : ℕ) → i < index → (get_or runs i (0, 0)).1 ≤ k) → in_runs (drop index runs) k ≡ in_runs runs k
in_runs-later zero runs k h = refl
in_runs-later (suc index) [] k h = refl
in_runs-later (suc index) (r ∷ runs) k h = in_runs-later index runs k (λ i below. h (suc i) (omega arith)) ∙ sym (ap (λ b. b || in_runs runs k) (in_run-above r k (h 0 (omega arith))))

-- up to the run that ends after a unit
pub in_runs-upto : (index : ℕ) (runs : List (ℕ × ℕ)) (k : ℕ) → are_ordered runs ≡ true → index ≤ length runs
    → (index < length runs → k < (get_or runs index (0, 0)).1) → in_runs (take (index + 1) runs) k ≡ in_runs runs k
in_runs-upto index runs k ordered fits ends = grind (arith, start_or-at, in_runs-take, next_start, take_all)

-- a run ends within all units
pub run_end : (n : ℕ) (runs : List (Range ℕ)) (i : ℕ) → All (λ (r : ℕ × ℕ). r.1 ≤ n) (map bounds runs) → i < length runs → (get_or runs i no_range).end ≤ n
run_end n runs i within fits = omega (arith, ap (λ (r : ℕ × ℕ). r.1) (get_or-map bounds runs i no_range (0, 0) fits), within i (0, 0) (omega (arith, fits, length-map runs bounds)))

-- an update that may be made twice, once one run more came
module _ (f : BidiClass → BidiClass) (twice : (c : BidiClass) → f (f c) ≡ f c) (runs : List (Range ℕ)) (i : ℕ) (old now new : List BidiClass) (fits : i < length runs) where
  abbrev ranges : List (ℕ × ℕ)
  ranges = map bounds runs

  abbrev run : Range ℕ
  run = get_or runs i no_range

  more : (k : ℕ) → in_runs (take (i + 1) ranges) k ≡ (in_runs (take i ranges) k || in_run (bounds run) k)
  more k = in_runs-more i ranges k (omega (arith, fits, length-map runs bounds)) ∙ ap (λ (r : ℕ × ℕ). in_runs (take i ranges) k || in_run r k) (get_or-map bounds runs i no_range (0, 0) fits)

  pub updated-more : All (λ r. r.1 ≤ length old) ranges → IsUpdated L (in_runs (take i ranges)) f 0 (length old) old now
      → IsUpdated L (λ u. true) f run.start run.end now new → IsUpdated L (in_runs (take (i + 1) ranges)) f 0 (length old) old new
  updated-more within h w = record {
    inside = λ k a b t. elim (cases_Bool (in_runs (take i ranges) k)) [
      | inl earlier ↦
          let done = h.inside k a b earlier in
          by_range k run.start run.end (λ low. w.below k low ∙ done) (λ from to. w.inside k from to refl ∙ (ap f done ∙ twice (class_at old k))) (λ past. w.above k past ∙ done)
      | inr other ↦
          let here : in_run (bounds run) k ≡ true = simp other at (sym (more k) ∙ t) in
          let ends = in_run-true (bounds run) k here in
          w.inside k ends.0 ends.1 refl ∙ ap f (h.failing k other)
    ];
    failing = λ k t.
        let parts = or_parts (in_runs (take i ranges) k) (in_run (bounds run) k) (sym (more k) ∙ t) in
        by_range k run.start run.end (w.below k) (λ from to. absurd (both_ways _ parts.1 (in_run-inside (bounds run) k from to))) (w.above k) ∙ h.failing k parts.0;
    below = λ k a. absurd (omega arith);
    above = λ k a. w.above k (omega (arith, run_end (length old) runs i within fits)) ∙ h.above k a;
    same_len = w.same_len ∙ h.same_len;
  }

-- and once all runs came
pub updated-all : (f : BidiClass → BidiClass) (runs : List (Range ℕ)) (i : ℕ) (old now : List BidiClass) → length runs ≤ i
    → IsUpdated L (in_runs (take i (map bounds runs))) f 0 (length old) old now → IsUpdated L (in_runs (map bounds runs)) f 0 (length old) old now
updated-all f runs i old now past h =
    subst (λ (rs : List (ℕ × ℕ)). IsUpdated L (in_runs rs) f 0 (length old) old now) (take_all i (map bounds runs) (omega (arith, past, length-map runs bounds))) h

pub ends-later : (n index : ℕ) (runs : List (ℕ × ℕ)) → All (λ r. r.1 ≤ n) runs → All (λ r. r.1 ≤ n) (take index runs)
ends-later n index runs h = All-take (λ (r : ℕ × ℕ). r.1 ≤ n) index runs h
