-- Lines without tabs.
use Rattle.bidi_base.proofs.Common.{◌≡◌, ℕ, ◌+◌, ◌%◌, ◌==◌, false, List, [], ◌∷◌, length, refl, arith, or_parts, list_any, length-append, length-replicate}
use Rattle.bidi_shown.specs.Clusters.{columns}
use Rattle.bidi_shown.specs.Tabs.{spread, spread_values}

pub spread-none : (column : ℕ) (cs : List ℕ) → list_any (λ c. c == 0x09) cs ≡ false → spread column cs ≡ cs
spread-none column [] none = refl
spread-none column (c ∷ cs) none =
    let parts = or_parts (c == 0x09) (list_any (λ c. c == 0x09) cs) none in
    simp (parts.0, spread-none ((column + columns c) % 8) cs parts.1)

module _ {X : Type 0} where
  pub spread_values-none : (column : ℕ) (cs : List ℕ) (xs : List X) → list_any (λ c. c == 0x09) cs ≡ false → length xs ≡ length cs → spread_values column cs xs ≡ xs
  spread_values-none column [] [] none same = refl
  spread_values-none column [] (x ∷ xs) none same = absurd (omega arith)
  spread_values-none column (c ∷ cs) [] none same = absurd (omega arith)
  spread_values-none column (c ∷ cs) (x ∷ xs) none same =
      let parts = or_parts (c == 0x09) (list_any (λ c. c == 0x09) cs) none in
      simp (parts.0, spread_values-none ((column + columns c) % 8) cs xs parts.1 (omega arith))

  pub length-spread_values : (column : ℕ) (cs : List ℕ) (xs : List X) → length xs ≡ length cs → length (spread_values column cs xs) ≡ length (spread column cs)
  length-spread_values column [] [] same = refl
  length-spread_values column [] (x ∷ xs) same = absurd (omega arith)
  length-spread_values column (c ∷ cs) [] same = absurd (omega arith)
  length-spread_values column (c ∷ cs) (x ∷ xs) same =
      grind (arith, length-append, length-replicate, length-spread_values 0 cs xs, length-spread_values ((column + columns c) % 8) cs xs)
