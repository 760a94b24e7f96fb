-- The characters of some runs stand in the runs.
use Rattle.bidi_base.proofs.Common.{◌≡◌, ℕ, zero, suc, ◌+◌, ◌-◌, ◌<◌, ◌≤◌, Bool, true, List, [], ◌∷◌, arith, filter, All, range_with_len, or_right, All-append, All-cons}
use Rattle.bidi_base.proofs.Common.{All-nil, All-head, All-tail, All-weaker, filter_passes, between, unit_index, char_index, IsLine, chars_in_runs, in_runs, AreLines}
use Rattle.bidi_base.proofs.UnitIndexLemmas.{line_unit_indexes, unit_index-lt, unit_index-mono}
use Rattle.bidi_base.proofs.TextLemmas.{HasUnits}
use Rattle.bidi_explicit.proofs.InRuns.{in_run, in_run-inside}

pub all_pass : (test : ℕ → Bool) (ks : List ℕ) → All (λ k. test k ≡ true) (filter test ks)
all_pass = filter_passes

all_between : (test : ℕ → Bool) (low n : ℕ) → ((k : ℕ) → low ≤ k → k < low + n → test k ≡ true) → All (λ k. test k ≡ true) (range_with_len low n)
all_between test low zero each = All-nil (λ k. test k ≡ true)
all_between test low (suc n) each = grind (arith, All-cons, each low, all_between test (low + 1) n)

module _ (len_of : ℕ → ℕ) (h : HasUnits len_of) (chars : List ℕ) where
  -- the characters of runs stand in the runs
  pub places_in_runs : (runs : List (ℕ × ℕ)) → AreLines len_of chars runs → All (λ k. in_runs runs (unit_index len_of chars k) ≡ true) (chars_in_runs len_of chars runs)
  unfolding chars_in_runs
  places_in_runs [] lines = All-nil (λ k. in_runs [] (unit_index len_of chars k) ≡ true)
  places_in_runs (r ∷ runs) lines =
      let i = char_index len_of chars r.0 in
      let j = char_index len_of chars r.1 in
      let w = line_unit_indexes len_of h chars r.0 r.1 (All-head (λ (q : ℕ × ℕ). IsLine len_of chars q.0 q.1) r runs lines) in
      All-append (λ k. in_runs (r ∷ runs) (unit_index len_of chars k) ≡ true) (between i j) (chars_in_runs len_of chars runs)
      (all_between (λ k. in_runs (r ∷ runs) (unit_index len_of chars k)) i (j - i)
      (λ k from below. grind (arith, w, in_run-inside r (unit_index len_of chars k), unit_index-mono len_of chars i k from, unit_index-lt len_of chars h k j)))
      (All-weaker (λ k. in_runs runs (unit_index len_of chars k) ≡ true) (λ k. in_runs (r ∷ runs) (unit_index len_of chars k) ≡ true)
      (λ k is. or_right (in_run r (unit_index len_of chars k)) (in_runs runs (unit_index len_of chars k)) is) (chars_in_runs len_of chars runs)
      (places_in_runs runs (All-tail (λ (q : ℕ × ℕ). IsLine len_of chars q.0 q.1) r runs lines)))
