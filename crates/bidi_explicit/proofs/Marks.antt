-- The marked units of a slice, and the classes at them.
use Rattle.bidi_base.proofs.Common.{◌≡◌, ℕ, zero, suc, ◌+◌, ◌-◌, ◌<◌, ◌≤◌, Bool, true, false, List, [], ◌∷◌, ◌++◌, length, get_or, replicate, refl, ap}
use Rattle.bidi_base.proofs.Common.{◌∙◌, arith, map, sym, filter, range_with_len, cases_Bool, at_indexes, between, filter-append, map-id}
use Rattle.bidi_base.specs.declared.char_data.BidiClass.{BidiClass}
use Rattle.bidi_base.specs.declared.char_data.BidiClass.TheVariants.{L}
use Rattle.std.proofs.lemmas.Simd.{splat_is_map}
use Rattle.bidi_base.proofs.ChainLemmas.{filter_range-none, range_with_len-append}
use Rattle.bidi_laws.proofs.StoredLemmas.{length-at_indexes}

-- a range in two parts
pub between-append : (low mid high : ℕ) → low ≤ mid → mid ≤ high → between low high ≡ between low mid ++ between mid high
between-append low mid high first second = grind (arith, range_with_len-append low (mid - low) (high - mid))

module _ (mark : ℕ → Bool) where
  -- the marked numbers from `low` up to `high`
  abbrev pub marked : ℕ → ℕ → List ℕ
  marked low high = filter mark (between low high)

  abbrev counted : ℕ → ℕ → List ℕ
  counted low n = filter mark (range_with_len low n)

  pub marked-none : (low high : ℕ) → high ≤ low → marked low high ≡ []
  marked-none low high order = let count : high - low ≡ 0 = omega arith in ap (counted low) count

  pub marked-parts : (low mid high : ℕ) → low ≤ mid → mid ≤ high → marked low high ≡ marked low mid ++ marked mid high
  marked-parts low mid high a b = ap (filter mark) (between-append low mid high a b) ∙ filter-append mark (between low mid) (between mid high)

  -- no unit is marked
  pub marked-empty : (low high : ℕ) → ((k : ℕ) → low ≤ k → k < high → mark k ≡ false) → marked low high ≡ []
  marked-empty low high h = filter_range-none mark low (high - low) (λ k a b. h k a (omega arith))

  full : (low n : ℕ) → ((k : ℕ) → low ≤ k → k < low + n → mark k ≡ true) → counted low n ≡ range_with_len low n
  full low zero h = refl
  full low (suc n) h = simp (h low (omega arith) (omega arith), full (low + 1) n (λ k a b. h k (omega arith) (omega arith)))

  -- each unit is marked
  pub marked-full : (low high : ℕ) → ((k : ℕ) → low ≤ k → k < high → mark k ≡ true) → marked low high ≡ between low high
  marked-full low high h = full low (high - low) (λ k a b. h k a (omega arith))

  -- only the first one is
  pub marked-one : (low high : ℕ) → low < high → mark low ≡ true → ((k : ℕ) → low < k → k < high → mark k ≡ false) → marked low high ≡ low ∷ []
  marked-one low high some is later =
      let count : high - low ≡ suc (high - (low + 1)) = omega arith in
      simp (count, is, marked-empty (low + 1) high (λ k a b. later k (omega arith) b))

  changed : (f : BidiClass → BidiClass) (xs ys : List BidiClass) (low n : ℕ)
      → ((k : ℕ) → low ≤ k → k < low + n → mark k ≡ true → get_or xs k L ≡ f (get_or ys k L))
      → at_indexes L xs (counted low n) ≡ map f (at_indexes L ys (counted low n))
  changed f xs ys low zero h = refl
  changed f xs ys low (suc n) h = grind (arith, cases_Bool (mark low), h low, changed f xs ys (low + 1) n (λ k from below is. h k (omega arith) (omega arith) is))

  -- classes that are changed one by one
  pub at_marked-changed : (f : BidiClass → BidiClass) (xs ys : List BidiClass) (low high : ℕ)
      → ((k : ℕ) → low ≤ k → k < high → mark k ≡ true → get_or xs k L ≡ f (get_or ys k L))
      → at_indexes L xs (marked low high) ≡ map f (at_indexes L ys (marked low high))
  at_marked-changed f xs ys low high h = changed f xs ys low (high - low) (λ k a b. h k a (omega arith))

  -- two slices that agree at the marked units
  pub at_marked-same : (xs ys : List BidiClass) (low high : ℕ)
      → ((k : ℕ) → low ≤ k → k < high → mark k ≡ true → get_or xs k L ≡ get_or ys k L)
      → at_indexes L xs (marked low high) ≡ at_indexes L ys (marked low high)
  at_marked-same xs ys low high h = at_marked-changed (λ c. c) xs ys low high h ∙ map-id (at_indexes L ys (marked low high))

  -- one class stands at each marked unit
  pub at_marked-all : (xs : List BidiClass) (v : BidiClass) (low high : ℕ)
      → ((k : ℕ) → low ≤ k → k < high → mark k ≡ true → get_or xs k L ≡ v)
      → at_indexes L xs (marked low high) ≡ replicate (length (marked low high)) v
  at_marked-all xs v low high h = at_marked-changed (λ c. v) xs xs low high h ∙ sym (splat_is_map (at_indexes L xs (marked low high)) (length (marked low high)) v (length-at_indexes L xs (marked low high)))
