-- The displayed characters of a line, cluster by cluster.
use Rattle.bidi_base.proofs.Common.{◌≡◌, ◌∙◌, ℕ, ◌+◌, ◌-◌, ◌<◌, ◌≤◌, List, [], ◌∷◌, ◌++◌, true, false, length, map, flat_map, flat_map-append, map-append, get_or, get_or-map, take, drop, slice_range, length-take, take_more, append-nil, inl, inr, cases_Bool, sym, ap, refl, add-zero, arith, at_indexes}
use Rattle.bidi_lines.proofs.Pieces.{at_indexes-map}
use Rattle.bidi_display.specs.LineClusters.{is_dropped}
use Rattle.bidi_display.specs.declared.line_char.LineChar.{LineChar}
use Rattle.bidi_display.specs.declared.options.DisplayOptions.{DisplayOptions}
use Rattle.bidi_calls.specs.ShownOrder.{shown_from}

-- the displayed ones of two lists, one after another
shown_from-append : (options : DisplayOptions) (at : ℕ) (xs ys : List LineChar)
    → shown_from options at (xs ++ ys) ≡ shown_from options at xs ++ shown_from options (at + length xs) ys
shown_from-append options at [] ys = simp add-zero refl
shown_from-append options at (x ∷ xs) ys =
    let next : at + 1 + length xs ≡ at + length (x ∷ xs) = omega arith in
    let rest : shown_from options (at + 1) (xs ++ ys) ≡ shown_from options (at + 1) xs ++ shown_from options (at + length (x ∷ xs)) ys =
    shown_from-append options (at + 1) xs ys ∙ ap (λ (n : ℕ). shown_from options (at + 1) xs ++ shown_from options n ys) next in
    elim (cases_Bool (is_dropped options.dropped x)) [
      | inl dropped ↦ simp dropped rest
      | inr shown ↦ simp shown (ap (λ (ks : List ℕ). at ∷ ks) rest)
    ]

module _ (options : DisplayOptions) (at : ℕ) (cs : List LineChar) (k : ℕ) (c : LineChar) (fits : k < length cs) (read : c ≡ get_or cs k c) where
  one_more : take (k + 1) cs ≡ take k cs ++ c ∷ []
  one_more = take_more cs k c fits ∙ ap (λ (x : LineChar). take k cs ++ x ∷ []) (sym read)

  parted : shown_from options at (take (k + 1) cs) ≡ shown_from options at (take k cs) ++ shown_from options (at + length (take k cs)) (c ∷ [])
  parted = ap (shown_from options at) one_more ∙ shown_from-append options at (take k cs) (c ∷ [])

  -- one more character that is displayed, and one that is not
  pub shown_from-more : length (take k cs) ≡ k → is_dropped options.dropped c ≡ false
      → shown_from options at (take (k + 1) cs) ≡ shown_from options at (take k cs) ++ (at + k) ∷ []
  shown_from-more long shown = parted ∙ simp (shown, long) refl

  pub shown_from-same : is_dropped options.dropped c ≡ true → shown_from options at (take (k + 1) cs) ≡ shown_from options at (take k cs)
  shown_from-same dropped = parted ∙ simp dropped (append-nil (shown_from options at (take k cs)))

-- the parts up to a visual index, and one more
pub parts-more : {X : Type 0} (parts : List (List X)) (order : List ℕ) (v k : ℕ) (part : List X) → v < length order → get_or order v 0 ≡ k → get_or parts k [] ≡ part
    → flat_map (λ (p : List X). p) (at_indexes [] parts (take (v + 1) order)) ≡ flat_map (λ (p : List X). p) (at_indexes [] parts (take v order)) ++ part
parts-more {X = X} parts order v k part fits at own = grind (
  arith,
  take_more order v 0 fits,
  at_indexes-map [] parts (take (v + 1) order),
  at_indexes-map [] parts (take v order),
  map-append (λ (p : ℕ). get_or parts p []) (take v order) (get_or order v 0 ∷ []),
  flat_map-append (λ (p : List X). p),
  append-nil part,
)

-- a step of the pass over the clusters, for what each cluster has
pub cluster-more : {X K : Type 0} (own : K → List X) (clusters : List K) (order : List ℕ) (v k : ℕ) (x : K) → v < length order → get_or order v 0 ≡ k → k < length clusters → x ≡ get_or clusters k x
    → flat_map (λ (p : List X). p) (at_indexes [] (map own clusters) (take (v + 1) order)) ≡ flat_map (λ (p : List X). p) (at_indexes [] (map own clusters) (take v order)) ++ own x
cluster-more own clusters order v k x fits at within read =
    parts-more (map own clusters) order v k (own x) fits at (get_or-map own clusters k x [] within ∙ ap own (sym read))

-- a part of a list is no longer than its range
pub length-slice_range-le : {X : Type 0} (xs : List X) (start end : ℕ) → length (slice_range xs start end) ≤ end - start
length-slice_range-le xs start end = grind (arith, length-take (end - start) (drop start xs))
