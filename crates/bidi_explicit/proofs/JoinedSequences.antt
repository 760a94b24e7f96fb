-- Sequences as a list of their own: what holds of those that the links lead to holds of their copies.
use Rattle.bidi_base.proofs.Common.{◌≡◌, ℕ, ◌+◌, true, List, [], ◌∷◌, ◌++◌, Range, map-append, bounds, length, map, get_or, sym, ap, subst, ◌∙◌, arith, filter, All, map-map, length-map}
use Rattle.bidi_base.proofs.Common.{get_or-map, flat_map-map, has_places, AreLines, flat_map}
use Rattle.bidi_base.specs.declared.char_data.BidiClass.{BidiClass}
use Rattle.bidi_explicit.specs.declared.prepare.sequence.IsolatingRunSequence.{IsolatingRunSequence}
use Rattle.bidi_explicit.specs.Joining.{JoinedRuns, characters_of}
use Rattle.bidi_explicit.specs.Links.{begins, sequence_at, sequences_before, linked_sequences, sequences_of}
use Rattle.bidi_explicit.specs.declared.prepare.links.RunLinks.{RunLinks}
use Rattle.bidi_explicit.proofs.LinkedSequences.{sequences_before-more}
use Rattle.bidi_explicit.specs.RunSequence.{joined, run_bounds, sequences_in}

-- one more is copied, or none begins with the run
pub copied-more : (links : RunLinks) (runs : List (ℕ × ℕ)) (r : ℕ) (out : List IsolatingRunSequence) (s : IsolatingRunSequence)
    → map joined out ≡ sequences_before links runs r → begins links r ≡ true → joined s ≡ sequence_at links runs r
    → map joined (out ++ s ∷ []) ≡ sequences_before links runs (r + 1)
copied-more links runs r out s before here is =
    map-append joined out (s ∷ []) ∙ ap {B = List JoinedRuns} (λ js. js ++ joined s ∷ []) before ∙ ap {B = List JoinedRuns} (λ j. sequences_before links runs r ++ j ∷ []) is ∙ sym (sequences_before-more links runs r here)

-- all are
pub copied-all : (links : RunLinks) (runs : List (Range ℕ)) (r : ℕ) (out : List IsolatingRunSequence)
    → map joined out ≡ sequences_before links (map bounds runs) r → r ≡ length runs → map joined out ≡ linked_sequences links (map bounds runs)
unfolding linked_sequences
copied-all links runs r out before all = before ∙ ap (sequences_before links (map bounds runs)) (all ∙ sym (length-map runs bounds))

module _ (out : List IsolatingRunSequence) (all : List JoinedRuns) (same : map joined out ≡ all) where
  pub sequences_in-joined : (len_of : ℕ → ℕ) (chars : List ℕ) (classes : List BidiClass) → sequences_in len_of chars classes out ≡ sequences_of len_of chars classes all
  sequences_in-joined len_of chars classes =
      ap (filter has_places) (sym (map-map (characters_of len_of chars classes) joined out))
      ∙ ap (λ (js : List JoinedRuns). sequences_of len_of chars classes js) same

  pub run_bounds-joined : flat_map run_bounds out ≡ flat_map (λ (s : JoinedRuns). s.runs) all
  run_bounds-joined = sym (flat_map-map (λ (s : JoinedRuns). s.runs) joined out) ∙ ap (flat_map (λ (s : JoinedRuns). s.runs)) same

  pub AreLines-joined : (len_of : ℕ → ℕ) (chars : List ℕ) → All (λ (s : JoinedRuns). AreLines len_of chars s.runs) all → All (λ s. AreLines len_of chars (run_bounds s)) out
  AreLines-joined len_of chars lines = λ k d within.
      let at : get_or all k (joined d) ≡ joined (get_or out k d) = ap (λ (js : List JoinedRuns). get_or js k (joined d)) (sym same) ∙ get_or-map joined out k d (joined d) within in
      subst (λ (j : JoinedRuns). AreLines len_of chars j.runs) at (lines k (joined d) (omega (arith, within, length-map out joined, ap length same)))
