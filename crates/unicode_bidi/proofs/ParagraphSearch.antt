-- The paragraph of a code unit, by a binary search over the ends of the paragraphs.
use Rattle.bidi_base.proofs.Common.{◌≡◌, ℕ, zero, suc, ◌<◌, ◌≤◌, true, false, nat_lt, leb, leb-true, List, [], ◌∷◌, length, get_or, find, slice_get, Some, None, Option, option_map, is_some, IfSome, slice_get-get_or, sym, ap, subst, ◌∙◌, refl, le_refl, arith, nat_tests, IsPartition}
use Rattle.std.proofs.Common.{Bor}
use Rattle.std.specs.List.Sorted.{IsNonDecreasingBy, IsPartitionPoint}
use Rattle.bidi_paragraphs.specs.declared.paragraph_info.ParagraphInfo.{ParagraphInfo}
use Rattle.bidi_paragraphs.specs.ParagraphInfo.{ranges_of}

-- each paragraph ends after the start of the first
ends-past_start : (start end : ℕ) (ps : List ParagraphInfo) → IsPartition start end (ranges_of ps) → (k : ℕ) (d : ParagraphInfo) → k < length ps
    → start < (get_or ps k d).range.end
ends-past_start start end [] h k d fits = absurd (omega arith)
ends-past_start start end (p ∷ ps) h zero d fits = omega (arith, h.0, h.1)
ends-past_start start end (p ∷ ps) h (suc k) d fits = omega (arith, h.0, h.1, ends-past_start p.range.end end ps h.2 k d (omega arith))

-- the ends ascend
pub ends-ascend : (start end : ℕ) (ps : List ParagraphInfo) → IsPartition start end (ranges_of ps) → IsNonDecreasingBy (λ (p : ParagraphInfo). p.range.end) ps
ends-ascend start end [] h i j d order fits = absurd (omega arith)
ends-ascend start end (p ∷ ps) h zero zero d order fits = le_refl _
ends-ascend start end (p ∷ ps) h zero (suc j) d order fits = omega (arith, ends-past_start p.range.end end ps h.2 j d (omega arith))
ends-ascend start end (p ∷ ps) h (suc i) zero d order fits = absurd (omega arith)
ends-ascend start end (p ∷ ps) h (suc i) (suc j) d order fits = ends-ascend p.range.end end ps h.2 i j d (omega arith) (omega arith)

-- where all paragraphs before one end at a unit or before it, that one starts there or before it
starts-at_or_before : (start end : ℕ) (ps : List ParagraphInfo) → IsPartition start end (ranges_of ps) → (k : ℕ) (d : ParagraphInfo) → k < length ps
    → (unit : ℕ) → start ≤ unit → ((j : ℕ) → j < k → (get_or ps j d).range.end ≤ unit) → (get_or ps k d).range.start ≤ unit
starts-at_or_before start end [] h k d fits unit from passed = absurd (omega arith)
starts-at_or_before start end (p ∷ ps) h zero d fits unit from passed = omega (arith, h.0)
starts-at_or_before start end (p ∷ ps) h (suc k) d fits unit from passed =
    starts-at_or_before p.range.end end ps h.2 k d (omega arith) unit (passed 0 (omega arith)) (λ j below. passed (suc j) (omega arith))

-- the first n paragraphs, and only they, end at the unit or before it
abbrev pub EndBefore : ℕ → List ParagraphInfo → ℕ → Type 0
EndBefore unit ps n = IsPartitionPoint (λ (p : ParagraphInfo). leb p.range.end unit ≡ true) (λ p. leb p.range.end unit ≡ false) ps n

module _ (unit : ℕ) (ps : List ParagraphInfo) (n : ℕ) (point : EndBefore unit ps n) where
  point-passed : (d : ParagraphInfo) (k : ℕ) → k < n → (get_or ps k d).range.end ≤ unit
  point-passed d k below = leb-true _ _ (point.0 k d (omega arith) below)

  point-next : (d : ParagraphInfo) → n < length ps → unit < (get_or ps n d).range.end
  point-next d fits = grind (arith, nat_tests, point.1 n d (le_refl n) fits)

-- the paragraph there is the first that ends after the unit
pub paragraph-found : (unit : ℕ) (ps : List ParagraphInfo) (n : ℕ) → EndBefore unit ps n → slice_get ps n ≡ find (λ p. nat_lt unit p.range.end) ps
paragraph-found unit [] n point = refl
paragraph-found unit (p ∷ ps) zero point =
    let past : nat_lt unit p.range.end ≡ true = grind (arith, nat_tests, point-next unit (p ∷ ps) zero point p (omega arith)) in
    rw past refl
paragraph-found unit (p ∷ ps) (suc n) point =
    let short : nat_lt unit p.range.end ≡ false = grind (arith, nat_tests, point-passed unit (p ∷ ps) (suc n) point p zero (omega arith)) in
    rw short (paragraph-found unit ps n (λ k d from below. point.0 (suc k) d (omega arith) (omega arith), λ k d from below. point.1 (suc k) d (omega arith) (omega arith)))

-- ---- what `get` gives at that place

slice_get-past : {X : Type 0} (xs : List X) (i : ℕ) → length xs ≤ i → slice_get xs i ≡ None
slice_get-past [] i past = refl
slice_get-past (x ∷ xs) zero past = absurd (omega arith)
slice_get-past (x ∷ xs) (suc i) past = slice_get-past xs i (omega arith)

pub got : {X : Type 0} (xs : List X) (i : ℕ) (r : Option (Bor X)) → is_some r ≡ nat_lt i (length xs) → IfSome r (λ x. x.now ≡ get_or xs i x.now)
    → option_map (λ x. x.now) r ≡ slice_get xs i
got xs i None some is = let past : length xs ≤ i = grind (arith, nat_tests) in sym (slice_get-past xs i past)
got xs i (Some x) some is = let fits : i < length xs = grind (arith, nat_tests) in ap Some is ∙ sym (slice_get-get_or xs i x.now fits)

-- a paragraph that is there has the unit
pub got-within : (unit end : ℕ) (ps : List ParagraphInfo) (n : ℕ) (r : Option (Bor ParagraphInfo)) → IsPartition 0 end (ranges_of ps) → EndBefore unit ps n
    → is_some r ≡ nat_lt n (length ps) → IfSome r (λ x. x.now ≡ get_or ps n x.now) → IfSome r (λ x. x.now.range.start ≤ unit × unit < x.now.range.end)
got-within unit end ps n None h point some is = tt
got-within unit end ps n (Some x) h point some is =
    let fits : n < length ps = grind (arith, nat_tests) in
    let starts = starts-at_or_before 0 end ps h n x.now fits unit (omega arith) (point-passed unit ps n point x.now) in
    let ends = point-next unit ps n point x.now fits in
    (subst (λ (p : ParagraphInfo). p.range.start ≤ unit) (sym is) starts, subst (λ (p : ParagraphInfo). unit < p.range.end) (sym is) ends)
