-- The units of a line that is shown are as many as those of the line.
use Rattle.bidi_base.proofs.Common.{◌≡◌, ℕ, zero, ◌+◌, ◌-◌, ◌≤◌, List, [], ◌∷◌, length, reverse, flat_map, refl, ap, ◌∙◌, arith, inl, inr, All-tail, IsPermutation-reverse, cases_Bool, sum_by-cons}
use Rattle.bidi_base.proofs.Common.{sum_by-IsPermutation, length-append, length-map, is_odd, text_len, subrange, IsLine, Run, run_level, written_runs, visual_runs, All}
use Rattle.bidi_base.proofs.TextLemmas.{HasUnits}
use Rattle.bidi_base.proofs.UnitIndexLemmas.{text_len-subrange}
use Rattle.bidi_lines.proofs.LineInText.{length-part}
use Rattle.bidi_lines.proofs.VisualRuns.{visual_runs-are}
use Rattle.bidi_lines.proofs.RunLengths.{length-written_run, length-visual_order}
use Rattle.bidi_lines.specs.LineUnits.{run_units, visual_units, AreRunsOfChars}

-- characters are written with as many units as they have, in whichever order
length-encoded : {X : Type 0} (len_of : ℕ → ℕ) (encode : ℕ → List X) → ((c : ℕ) → length (encode c) ≡ len_of c) → (cs : List ℕ) → length (flat_map encode cs) ≡ text_len len_of cs
length-encoded len_of encode each [] = refl
length-encoded len_of encode each (c ∷ cs) = grind (arith, length-append (encode c) (flat_map encode cs), each c, length-encoded len_of encode each cs, sum_by-cons len_of c cs)

module _ {X : Type 0} (len_of : ℕ → ℕ) (some : HasUnits len_of) (encode : ℕ → List X) (each : (c : ℕ) → length (encode c) ≡ len_of c)
    (chars : List ℕ) (units : List X) (start : ℕ) (shown : List ℕ) where
  length-run_units : (r : Run) → IsLine len_of chars r.0 r.1 → r.1 ≤ length units → length (run_units len_of encode chars units start shown r) ≡ r.1 - r.0
  length-run_units r line within = elim (cases_Bool (is_odd (run_level start shown r))) [
    | inl odd ↦
        simp odd (length-encoded len_of encode each (reverse (subrange len_of chars r.0 r.1))
        ∙ sum_by-IsPermutation len_of _ _ (IsPermutation-reverse (subrange len_of chars r.0 r.1))
        ∙ text_len-subrange len_of some chars r.0 r.1 line)
    | inr even ↦ simp even (length-part units r.0 r.1 within)
  ]

  as_written : (runs : List Run) → All (λ (r : Run). IsLine len_of chars r.0 r.1) runs → All (λ (r : Run). r.1 ≤ length units) runs
      → length (flat_map (run_units len_of encode chars units start shown) runs) ≡ length (written_runs start shown runs)
  unfolding written_runs
  as_written [] lines within = refl
  as_written (r ∷ rs) lines within =
      let rest = as_written rs (All-tail (λ (q : Run). IsLine len_of chars q.0 q.1) r rs lines) (All-tail (λ (q : Run). q.1 ≤ length units) r rs within) in
      grind (arith, length-append, length-run_units r (lines zero r (omega arith)) (within zero r (omega arith)), length-written_run start shown r, rest)

  pub length-visual_units : AreRunsOfChars len_of chars start shown → start + length shown ≤ length units → length (visual_units len_of encode chars units start shown) ≡ length shown
  length-visual_units lines within =
      let runs = visual_runs-are start shown in
      as_written (visual_runs start shown) lines (λ k d fits. omega (arith, within, (runs.are_runs k d fits).ends_within)) ∙ ap length runs.in_order ∙ length-map _ _ ∙ length-visual_order shown
