-- Parts of a line that stand arranged: seen from a lower level, turned round, and joined.
use Rattle.bidi_base.proofs.Common.{◌≡◌, ℕ, ◌+◌, ◌-◌, ◌<◌, ◌≤◌, List, length, slice_index, arith, inl, inr, ◌∙◌, rules, IsPermutation, cases_lt, IsPermutation-trans, least_between}
use Rattle.bidi_laws.proofs.OrderLemmas.{least_between-le}
use Rattle.bidi_lines.specs.ArrangedItems.{IsEven, IsOdd, IsArranged, AtLeast}
use Rattle.bidi_lines.proofs.Least.{least_between-is}

-- what is arranged above a higher level that no item is below
module _ (levels : List ℕ) (threshold least at end : ℕ) (fits : end ≤ length levels) (above : AtLeast levels least at end) (under : threshold ≤ least) where
  deep : (i j : ℕ) → at ≤ i → i < j → j < end → least ≤ least_between levels i j
  deep i j a b c = grind (arith, least_between-le)

  -- an even number of levels further up: as it is
  pub arranged-nested : (order : List ℕ) → IsEven (least - threshold) → IsArranged levels least at end order → IsArranged levels threshold at end order
  arranged-nested order even inner = record {
    low = inner.low;
    high = inner.high;
    pairs = λ p q a b c. grind (arith, inner.pairs p q a b c, deep, inner.low p, inner.high q, inner.low q, inner.high p);
  }

  -- an odd number: turned round
  pub arranged-turned : (mid new : List ℕ) → IsOdd (least - threshold) → ((p q : ℕ) → at ≤ p → at ≤ q → p + q + 1 ≡ at + end → slice_index new p ≡ slice_index mid q)
      → IsArranged levels least at end mid → IsArranged levels threshold at end new
  arranged-turned mid new odd inside inner = record {
    low = λ p a b. rw (mirrored p a b) (inner.low (at + end - 1 - p) (omega arith) (omega arith));
    high = λ p a b. rw (mirrored p a b) (inner.high (at + end - 1 - p) (omega arith) (omega arith));
    pairs = λ p q a b c. rw (mirrored p a (omega arith), mirrored q (omega arith) c)
        (grind (arith, inner.pairs (at + end - 1 - q) (at + end - 1 - p), deep, inner.low, inner.high));
  }
    where
      mirrored : (p : ℕ) → at ≤ p → p < end → slice_index new p ≡ slice_index mid (at + end - 1 - p)
      mirrored p a b = inside p (at + end - 1 - p) a (omega arith) (omega arith)

-- from each item of one part to each of the next an item has the level `threshold`
Parted : List ℕ → ℕ → ℕ → ℕ → ℕ → Type 0
Parted levels threshold from at end = (x y : ℕ) → from ≤ x → x < at → at ≤ y → y < end → (s : ℕ) × (x ≤ s) × (s ≤ y) × (slice_index levels s ≡ threshold)

arranged-joined : (levels : List ℕ) (threshold from at end : ℕ) (order new : List ℕ) → end ≤ length levels → AtLeast levels threshold from end → Parted levels threshold from at end
    → ((p : ℕ) → p < at → slice_index new p ≡ slice_index order p)
    → IsArranged levels threshold from at order → IsArranged levels threshold at end new → from ≤ at → at ≤ end → IsArranged levels threshold from end new
unfolding Parted
arranged-joined levels threshold from at end order new fits all parted before old inner o oo = record {
  low = λ p a b. elim (cases_lt p at) [ inl k ↦ rw (before p k) (old.low p a k) | inr k ↦ omega (arith, inner.low p k b) ];
  high = λ p a b. elim (cases_lt p at) [ inl k ↦ rw (before p k) (omega (arith, old.high p a k)) | inr k ↦ inner.high p k b ];
  pairs = λ p q a b c. elim (cases_lt q at) [
    | inl k ↦ rw (before p (omega arith), before q k) (old.pairs p q a b k)
    | inr k ↦ elim (cases_lt p at) [
      | inl m ↦
          let s = parted _ _ (old.low p a m) (old.high p a m) (inner.low q k c) (inner.high q k c) in
          rw (before p m) (grind (arith, old.low p, old.high p, inner.low q, inner.high q, least_between-is levels (slice_index order p) (slice_index new q) threshold s.0 s.1 s.2))
      | inr m ↦ inner.pairs p q m b c
    ]
  ];
}

-- the places from `from` to `at` are arranged, and what is elsewhere is as it was; what follows is above `threshold` only after an item at `threshold`
pub record IsArrangedTo (levels : List ℕ) (threshold from : ℕ) (old new : List ℕ) (at : ℕ) : Type 0 where
  pub begins : from ≤ at
  pub ends : at ≤ length levels
  pub at_least : AtLeast levels threshold from at
  pub before : (p : ℕ) → p < from → slice_index new p ≡ slice_index old p
  pub after : (p : ℕ) → at ≤ p → slice_index new p ≡ slice_index old p
  pub edge : from < at → at < length levels → threshold < slice_index levels at → slice_index levels (at - 1) ≡ threshold
  pub arranged : IsArranged levels threshold from at new
  pub permutation : IsPermutation old new

-- a further part, from `at` to `end`, whose items are so arranged
pub record IsNextPart (levels : List ℕ) (threshold : ℕ) (old new : List ℕ) (at end : ℕ) : Type 0 where
  pub within : (at ≤ end) × (end ≤ length levels)
  pub at_least : AtLeast levels threshold at end
  pub before : (p : ℕ) → p < at → slice_index new p ≡ slice_index old p
  pub after : (p : ℕ) → end ≤ p → slice_index new p ≡ slice_index old p
  pub arranged : IsArranged levels threshold at end new
  pub permutation : IsPermutation old new

-- a run of one level
pub IsNextPart-level : (levels : List ℕ) (level : ℕ) (order : List ℕ) (at end : ℕ) → (at ≤ end) × (end ≤ length levels)
    → ((p : ℕ) → at ≤ p → p < end → slice_index levels p ≡ level) → ((p : ℕ) → at ≤ p → p < end → slice_index order p ≡ p) → IsNextPart levels level order order at end
IsNextPart-level levels level order at end within same own = grind (arith, least_between-is)

-- a part seen from a lower level, and turned round
module _ (levels : List ℕ) (threshold least : ℕ) (old mid : List ℕ) (at end : ℕ) (under : threshold ≤ least) (part : IsNextPart levels least old mid at end) where
  pub IsNextPart-nested : IsEven (least - threshold) → IsNextPart levels threshold old mid at end
  IsNextPart-nested even = search (rules, arranged-nested)

  pub IsNextPart-turned : (new : List ℕ) → IsOdd (least - threshold) → ((p : ℕ) → p < at → slice_index new p ≡ slice_index mid p) → ((p : ℕ) → end ≤ p → slice_index new p ≡ slice_index mid p)
      → ((p q : ℕ) → at ≤ p → at ≤ q → p + q + 1 ≡ at + end → slice_index new p ≡ slice_index mid q) → IsPermutation mid new → IsNextPart levels threshold old new at end
  IsNextPart-turned new odd before after inside perm = grind (arith, arranged-turned levels threshold least at end part.within.1 part.at_least under mid new odd inside, IsPermutation-trans old mid new)

module _ (levels : List ℕ) (threshold from : ℕ) (old mid new : List ℕ) (at end : ℕ) where
  more : IsArrangedTo levels threshold from old mid at → IsNextPart levels threshold mid new at end → Parted levels threshold from at end
      → (end < length levels → threshold < slice_index levels end → slice_index levels (end - 1) ≡ threshold) → IsArrangedTo levels threshold from old new end
  more h part parted edge = grind (arith, arranged-joined levels threshold from at end mid new, IsPermutation-trans old mid new)

  -- a stretch above the base, after which comes no item above it
  pub IsArrangedTo-stretch : at < length levels → threshold < slice_index levels at → (end < length levels → slice_index levels end ≤ threshold)
      → IsNextPart levels threshold mid new at end → IsArrangedTo levels threshold from old mid at → IsArrangedTo levels threshold from old new end
  unfolding Parted
  IsArrangedTo-stretch some above stops part h = more h part (λ x y a b c d. (at - 1, omega arith, omega arith, h.edge (omega arith) some above)) (λ a b. absurd (omega (arith, stops a)))

-- a run at the base
pub IsArrangedTo-run : (levels : List ℕ) (threshold from : ℕ) (old new : List ℕ) (at end : ℕ) → at < end → end ≤ length levels
    → ((p : ℕ) → at ≤ p → p < end → slice_index levels p ≡ threshold) → ((p : ℕ) → from ≤ p → p < length levels → slice_index old p ≡ p)
    → IsArrangedTo levels threshold from old new at → IsArrangedTo levels threshold from old new end
unfolding Parted
IsArrangedTo-run levels threshold from old new at end some fits same untouched h =
    more levels threshold from old new new at end h
    (IsNextPart-level levels threshold new at end (omega arith, fits) same (λ p a b. h.after p a ∙ untouched p (omega (arith, h.begins)) (omega arith)))
    (λ x y a b c d. (y, omega arith, omega arith, same y c d))
    (λ a b. same (end - 1) (omega arith) (omega arith))
