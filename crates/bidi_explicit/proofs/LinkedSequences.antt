-- The sequences that begin before a run, and the one that begins with it.
use Rattle.bidi_base.proofs.Common.{◌≡◌, ℕ, suc, ◌+◌, ◌-◌, ◌<◌, true, false, List, [], ◌∷◌, ◌++◌, length, map, ap, ◌∙◌, arith, zero-add, append-nil, filter, filter-append, map-append, range_with_len}
use Rattle.bidi_base.proofs.ChainLemmas.{range_with_len-append}
use Rattle.bidi_base.proofs.PlacesLemmas.{range_with_len-more}
use Rattle.bidi_explicit.specs.Joining.{JoinedRuns}
use Rattle.bidi_explicit.specs.Links.{begins, sequence_at, linked_sequences, sequences_before}
use Rattle.bidi_explicit.specs.declared.prepare.links.RunLinks.{RunLinks}

range-more : (r : ℕ) → range_with_len 0 (r + 1) ≡ range_with_len 0 r ++ r ∷ []
range-more r = grind (arith, range_with_len-more 0 r)

range-parts : (n r : ℕ) → r < n → range_with_len 0 n ≡ range_with_len 0 r ++ r ∷ range_with_len (r + 1) (n - (r + 1))
range-parts n r within =
    let m : ℕ = n - (r + 1) in
    ap (range_with_len 0) (let e : n ≡ r + suc m = omega arith in e) ∙ range_with_len-append 0 r (suc m) ∙ ap {B = List ℕ} (λ x. range_with_len 0 r ++ x ∷ range_with_len (x + 1) m) (zero-add r)

module _ (links : RunLinks) (runs : List (ℕ × ℕ)) (r : ℕ) where
  pub sequences_before-more : begins links r ≡ true → sequences_before links runs (r + 1) ≡ sequences_before links runs r ++ sequence_at links runs r ∷ []
  sequences_before-more here = simp (range-more r, filter-append, here, map-append)

  pub sequences_before-same : begins links r ≡ false → sequences_before links runs (r + 1) ≡ sequences_before links runs r
  sequences_before-same other = simp (range-more r, filter-append, other, append-nil)

  -- the sequence that begins with the run is one of all
  pub record IsPart : Type 0 where
    pub after : List JoinedRuns
    pub is : linked_sequences links runs ≡ sequences_before links runs r ++ sequence_at links runs r ∷ after

  pub linked_sequences-part : r < length runs → begins links r ≡ true → IsPart
  unfolding linked_sequences
  linked_sequences-part within here = record {
    after = map (sequence_at links runs) (filter (begins links) (range_with_len (r + 1) (length runs - (r + 1))));
    is = simp (range-parts (length runs) r within, filter-append, here, map-append);
  }
