-- The characters of runs that the passes take as kept, one after another.
use Rattle.bidi_base.proofs.Common.{◌≡◌, ℕ, ◌+◌, ◌-◌, ◌<◌, ◌≤◌, true, List, [], ◌∷◌, ◌++◌, length, map, get_or, take, refl, arith, append-nil, range_with_len}
use Rattle.bidi_base.proofs.Common.{flat_map-append, get_or-map, length-map, map-append, take_more, All-get_or, All-head, All-tail, filter-append, Range, is_kept_in_place}
use Rattle.bidi_base.proofs.Common.{between, class_at, unit_index, IsLine, char_index, are_ordered, are_ordered_from, bounds, chars_in_runs, kept_in_place, AreLines}
use Rattle.bidi_base.specs.declared.char_data.BidiClass.{BidiClass}
use Rattle.bidi_base.proofs.TextLemmas.{HasUnits}
use Rattle.bidi_base.proofs.UnitIndexLemmas.{char_index-le, line_unit_indexes, unit_index-le-back}
use Rattle.bidi_laws.proofs.PermutationLemmas.{Ascends-filter, Ascends-lower, Ascends-range, Ascends}
use Rattle.bidi_rules.specs.NeutralPass.{kept_among}
use Rattle.bidi_explicit.proofs.WalkLemmas.{no_range, are_ordered-front}

-- ---- the runs one after another

pub line_at : (len_of : ℕ → ℕ) (chars : List ℕ) (runs : List (Range ℕ)) (i : ℕ) → i < length runs → AreLines len_of chars (map bounds runs)
    → IsLine len_of chars (get_or runs i no_range).start (get_or runs i no_range).end
line_at len_of chars runs i fits lines =
    simp (get_or-map bounds runs i no_range (0, 0) fits) at (All-get_or (λ (r : ℕ × ℕ). IsLine len_of chars r.0 r.1) (map bounds runs) i (0, 0) (omega (arith, length-map runs bounds)) lines)

-- ---- what is read of them

module _ (len_of : ℕ → ℕ) (chars : List ℕ) where
  module _ (classes : List BidiClass) where
    -- of the first n characters from `start` on
    abbrev pub kept_so_far : ℕ → ℕ → List ℕ
    kept_so_far start n = kept_among len_of chars classes (range_with_len (char_index len_of chars start) n)

    -- all characters of a run
    pub kept_so_far-end : (start stop n : ℕ) → char_index len_of chars start + n ≡ char_index len_of chars stop → kept_so_far start n ≡ kept_in_place len_of chars classes ((start, stop) ∷ [])
    unfolding kept_in_place chars_in_runs
    kept_so_far-end start stop n all = grind (arith, append-nil)

    -- some runs, and then others
    pub kept_in_place-append : (runs others : List (ℕ × ℕ)) → kept_in_place len_of chars classes (runs ++ others) ≡ kept_in_place len_of chars classes runs ++ kept_in_place len_of chars classes others
    unfolding kept_in_place chars_in_runs
    kept_in_place-append runs others = grind (arith, flat_map-append, filter-append)

    -- the first runs, one after another
    pub kept_in_place-none : kept_in_place len_of chars classes [] ≡ []
    unfolding kept_in_place chars_in_runs
    kept_in_place-none = refl

    pub kept_in_place-more : (runs : List (Range ℕ)) (i : ℕ) → i < length runs
        → kept_in_place len_of chars classes (map bounds (take (i + 1) runs)) ≡ kept_in_place len_of chars classes (map bounds (take i runs)) ++ kept_in_place len_of chars classes (bounds (get_or runs i no_range) ∷ [])
    kept_in_place-more runs i fits = simp (take_more runs i no_range fits, map-append, kept_in_place-append)

-- ---- the characters of runs in order rise

Ascends-append : (low mid high : ℕ) (xs ys : List ℕ) → Ascends low xs mid → Ascends mid ys high → Ascends low (xs ++ ys) high
Ascends-append low mid high [] ys h g = Ascends-lower low mid high ys h g
Ascends-append low mid high (x ∷ xs) ys h g = (h.0, Ascends-append (x + 1) mid high xs ys h.1 g)

module _ (len_of : ℕ → ℕ) (h : HasUnits len_of) (chars : List ℕ) where
  chars-all : (a : ℕ) (runs : List (ℕ × ℕ)) → AreLines len_of chars runs → are_ordered_from (unit_index len_of chars a) runs ≡ true
      → a ≤ length chars → Ascends a (chars_in_runs len_of chars runs) (length chars)
  unfolding chars_in_runs
  chars-all a [] lines ordered within = within
  chars-all a (r ∷ runs) lines ordered within =
      let i = char_index len_of chars r.0 in
      let j = char_index len_of chars r.1 in
      let f = are_ordered-front (unit_index len_of chars a) r runs ordered in
      let w = line_unit_indexes len_of h chars r.0 r.1 (All-head (λ (q : ℕ × ℕ). IsLine len_of chars q.0 q.1) r runs lines) in
      let rest = chars-all j runs (All-tail (λ (q : ℕ × ℕ). IsLine len_of chars q.0 q.1) r runs lines) in
      grind (
        arith,
        Ascends-append a j (length chars) (between i j),
        Ascends-lower a i j (between i j),
        unit_index-le-back len_of chars h a i,
        Ascends-range i (j - i) j,
        rest,
        char_index-le len_of chars r.1,
      )

  module _ (classes : List BidiClass) where
    pub kept_in_place-Ascends : (runs : List (ℕ × ℕ)) → AreLines len_of chars runs → are_ordered runs ≡ true → Ascends 0 (kept_in_place len_of chars classes runs) (length chars)
    unfolding kept_in_place
    kept_in_place-Ascends runs lines ordered =
        Ascends-filter (λ k. is_kept_in_place (class_at classes (unit_index len_of chars k))) 0 (length chars) (chars_in_runs len_of chars runs) (chars-all 0 runs lines ordered (omega arith))
