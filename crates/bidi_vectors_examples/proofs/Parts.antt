-- Each run of a line is a part of the line.
use Rattle.bidi_base.proofs.Common.{◌≡◌, ◌<◌, ℕ, List, All, run_of, Range, subst, sym, get_or, length, AnalysedText}
use Rattle.bidi_base.specs.AnalysedText.{IsPartOfLine}

-- the run at an index of a slice of them
pub part_at : (a : AnalysedText) (line : Range ℕ) (runs slice : List (Range ℕ)) (k : ℕ) → All (λ r. IsPartOfLine a line (run_of r)) runs
    → slice ≡ runs → k < length slice → IsPartOfLine a line (run_of (get_or slice k (record { start = 0; end = 0 })))
part_at a line runs slice k parts same within =
    let d : Range ℕ = record { start = 0; end = 0 } in
    subst (λ (l : List (Range ℕ)). IsPartOfLine a line (run_of (get_or l k d))) (sym same)
    (parts k d (subst (λ (l : List (Range ℕ)). k < length l) same within))
