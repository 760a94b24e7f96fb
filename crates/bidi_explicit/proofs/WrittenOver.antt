-- A class written over some units of a slice.
use Rattle.bidi_base.proofs.Common.{◌≡◌, ℕ, ◌+◌, ◌-◌, ◌<◌, ◌≤◌, true, min, max, List, length, get_or, take, sym, ap, ◌∙◌, arith, inl, inr, length-take, length-drop}
use Rattle.bidi_base.proofs.Common.{length-append, common_steps, cases_lt, cases_Bool, and_parts, and_from, and_left, or_parts}
use Rattle.bidi_base.proofs.Common.{length-replicate, get_or_append_left, get_or-append_right, get_or-replicate, is_kept_in_place, class_at, are_ordered, in_runs, get_or-take}
use Rattle.bidi_base.proofs.Common.{get_or-drop}
use Rattle.bidi_base.proofs.UpdatedLemmas.{by_range}
use Rattle.std.proofs.lemmas.Bool.{and_cases}
use Rattle.bidi_base.specs.declared.char_data.BidiClass.{BidiClass}
use Rattle.bidi_explicit.specs.RunCutting.{filled}
use Rattle.bidi_explicit.specs.SequenceUnits.{is_seen, IsWrittenOver}
use Rattle.bidi_explicit.proofs.InRuns.{in_run, in_run-true, in_run-inside, in_runs-more, in_runs-take}

-- all units of a range
pub IsWrittenOver-filled : (class : BidiClass) (from to : ℕ) (old : List BidiClass) → from ≤ to → to ≤ length old → IsWrittenOver (λ k. true) class from to old (filled from (to - from) class old)
IsWrittenOver-filled class from to old order fits =
    search (arith, length-take, length-replicate, get_or-append_right, get_or_append_left, get_or-replicate, get_or-take, get_or-drop, length-append, length-drop)

-- ---- over some ranges

module _ (runs : List (ℕ × ℕ)) (class : BidiClass) (from to : ℕ) (old : List BidiClass) where
  -- one range more
  module _ (index : ℕ) (fits : index < length runs) (now new : List BidiClass) (h : IsWrittenOver (is_seen (take index runs) old) class from to old now) (start end : ℕ)
      (start_is : start ≡ max (get_or runs index (0, 0)).0 from) (end_is : end ≡ min (get_or runs index (0, 0)).1 to) (w : IsWrittenOver (λ k. is_kept_in_place (class_at now k)) class start end now new) where
    abbrev run : ℕ × ℕ
    run = get_or runs index (0, 0)

    -- what is written stays
    stays : (k : ℕ) → class_at now k ≡ class → class_at new k ≡ class
    stays k written = grind (arith, cases_Bool (is_kept_in_place (class_at now k)), cases_lt k start, cases_lt k end)

    pub runs-more : IsWrittenOver (is_seen (take (index + 1) runs) old) class from to old new
    runs-more = record {
      inside = λ k a b t.
          let parts = and_parts (in_runs (take (index + 1) runs) k) (is_kept_in_place (class_at old k)) t in
          elim (cases_Bool (in_runs (take index runs) k)) [
            | inl earlier ↦ stays k (h.inside k a b (and_from _ _ earlier parts.1))
            | inr new' ↦
                let here : in_run run k ≡ true = simp new' at (sym (in_runs-more index runs k fits) ∙ parts.0) in
                let ends = in_run-true run k here in
                let before = h.failing k (and_left (in_runs (take index runs) k) (is_kept_in_place (class_at old k)) new') in
                w.inside k (omega arith) (omega arith) (ap is_kept_in_place before ∙ parts.1)
          ];
      failing = λ k t. elim (and_cases (in_runs (take (index + 1) runs) k) (is_kept_in_place (class_at old k)) t) [
        | inl outside ↦
            let parts = or_parts (in_runs (take index runs) k) (in_run run k) (sym (in_runs-more index runs k fits) ∙ outside) in
            by_range k start end (λ low. grind (arith, h.failing k, w.below k)) (λ high within. grind (
              arith,
              in_run-inside run k,
            )) (λ past. grind (arith, h.failing k, w.above k))
        | inr removed ↦ grind (arith, h.failing k, w.failing k)
      ];
      below = λ k a. w.below k (omega arith) ∙ h.below k a;
      above = λ k a. w.above k (omega arith) ∙ h.above k a;
      same_len = w.same_len ∙ h.same_len;
    }

  -- the ranges from the one at `index` on begin at `to` or later
  pub runs-stop : (index : ℕ) (now : List BidiClass) → are_ordered runs ≡ true → index < length runs → to ≤ (get_or runs index (0, 0)).0
      → IsWrittenOver (is_seen (take index runs) old) class from to old now → IsWrittenOver (is_seen runs old) class from to old now
  runs-stop index now ordered fits past h = grind (arith, common_steps, in_runs-take)
