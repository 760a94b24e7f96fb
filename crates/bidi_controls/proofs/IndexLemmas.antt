-- The indexes of a list, one by one.
use Rattle.bidi_base.proofs.Common.{◌≡◌, ◌∙◌, ℕ, ◌+◌, [], ◌∷◌, ◌++◌, ap, arith, range_with_len}
use Rattle.bidi_base.proofs.ChainLemmas.{range_with_len-append}

-- one more index
pub next_index : (i : ℕ) → range_with_len 0 (i + 1) ≡ range_with_len 0 i ++ i ∷ []
next_index i = range_with_len-append 0 i 1 ∙ ap (λ (n : ℕ). range_with_len 0 i ++ n ∷ []) (omega arith)
