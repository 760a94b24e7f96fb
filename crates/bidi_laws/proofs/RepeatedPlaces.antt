-- The units of some characters: what is at them is what is at the characters, repeated; and the units that a pass reads
-- are those of the characters that it reads.
use Rattle.bidi_base.proofs.Common.{◌≡◌, ◌≢◌, ◌⊎◌, ℕ, zero, suc, ◌+◌, ◌-◌, ◌<◌, ◌≤◌, Bool, true, List, [], ◌∷◌, ◌++◌, length, map, get_or, replicate, refl, sym, ap, ◌∙◌, arith, inl, inr, filter}
use Rattle.bidi_base.proofs.Common.{range_with_len, cases_eq, flat_map-append, All-nil, All-cons, All-head, All-tail, All-append, All-filter, filter-append, length-map, ext_get_or}
use Rattle.bidi_base.proofs.Common.{is_kept_in_place, between, class_at, at_indexes, text_len, unit_index, per_unit, per_char, IsPerChar, IsLine, char_index, chars_in_runs, kept_in_place, units_in_runs}
use Rattle.bidi_base.proofs.Common.{AreLines, flat_map}
use Rattle.bidi_base.specs.declared.char_data.BidiClass.{BidiClass}
use Rattle.bidi_base.specs.declared.char_data.BidiClass.TheVariants.{L}
use Rattle.std.specs.List.{All}
use Rattle.bidi_base.proofs.ChainLemmas.{range_with_len-append, filter_range-none}
use Rattle.bidi_base.proofs.UnitIndexLemmas.{line_unit_indexes, unit_index-mono, unit_index-more, unit_of}
use Rattle.bidi_base.proofs.PerUnit.{length-per_unit, length-per_char, get_or-per_char, get_or-per_unit, get_or-per_unit-unit_index}
use Rattle.bidi_laws.proofs.StoredLemmas.{length-at_indexes, at_indexes-append}
use Rattle.bidi_base.proofs.TextLemmas.{HasUnits}
use Rattle.bidi_laws.proofs.Repeated.{HaveUnits}

-- the units of a character, and of some characters, by their indexes
abbrev pub units_of_char : (ℕ → ℕ) → List ℕ → ℕ → List ℕ
units_of_char len_of chars k = range_with_len (unit_index len_of chars k) (len_of (get_or chars k 0))

abbrev pub units_of_chars : (ℕ → ℕ) → List ℕ → List ℕ → List ℕ
units_of_chars len_of chars ks = flat_map (units_of_char len_of chars) ks

-- each index is one of a character
abbrev pub AreIndexes : List ℕ → List ℕ → Type 0
AreIndexes chars ks = All (λ k. k < length chars) ks

-- ---- what is there

row_of : {X : Type 0} (d v : X) (units : List X) (u n : ℕ) → ((p : ℕ) → u ≤ p → p < u + n → get_or units p d ≡ v) → at_indexes d units (range_with_len u n) ≡ replicate n v
row_of d v units u zero each = refl
row_of d v units u (suc n) each = grind (arith, row_of d v units (u + 1) n)

pub at_indexes-units : {X : Type 0} (d : X) (len_of : ℕ → ℕ) (chars : List ℕ) (values : List X) → length values ≡ length chars → (ks : List ℕ) → AreIndexes chars ks
    → at_indexes d (per_unit len_of chars values) (units_of_chars len_of chars ks) ≡ per_unit len_of (at_indexes 0 chars ks) (at_indexes d values ks)
at_indexes-units d len_of chars values long [] are = refl
at_indexes-units {X} d len_of chars values long (k ∷ ks) are =
    let row = row_of d (get_or values k d) (per_unit len_of chars values) (unit_index len_of chars k)
    (len_of (get_or chars k 0)) (λ p from below.
    let at : unit_index len_of chars k + (p - unit_index len_of chars k) ≡ p = omega arith in
    simp at at (get_or-per_unit len_of chars values k (p - unit_index len_of chars k) 0 d long
    (All-head (λ (i : ℕ). i < length chars) k ks are) (omega arith))) in
    simp (at_indexes-append, row, at_indexes-units d len_of chars values long ks (All-tail (λ (i : ℕ). i < length chars) k ks are))

-- ---- and back: what a pass over units left there it left at the characters

row_rest : {X : Type 0} (d w : X) (units xs ys : List X) (u n : ℕ) → at_indexes d units (range_with_len u n) ++ xs ≡ replicate n w ++ ys → xs ≡ ys
row_rest d w units xs ys u zero e = e
row_rest d w units xs ys u (suc n) e = row_rest d w units xs ys (u + 1) n (cc e)

row_first : {X : Type 0} (d w : X) (units xs ys : List X) (u n : ℕ) → 1 ≤ n → at_indexes d units (range_with_len u n) ++ xs ≡ replicate n w ++ ys → get_or units u d ≡ w
row_first d w units xs ys u n some e = grind arith

pub at_indexes-from_units : {X : Type 0} (d : X) (len_of : ℕ → ℕ) → HasUnits len_of → (chars : List ℕ) (units : List X) (ks : List ℕ) (values : List X) → length values ≡ length ks
    → at_indexes d units (units_of_chars len_of chars ks) ≡ per_unit len_of (at_indexes 0 chars ks) values → at_indexes d units (map (unit_index len_of chars) ks) ≡ values
at_indexes-from_units d len_of h chars units [] [] long e = refl
at_indexes-from_units {X} d len_of h chars units (k ∷ ks) (v ∷ values) long e = grind (
  arith,
  at_indexes-append,
  row_first,
  row_rest,
  h (get_or chars k 0),
  at_indexes-from_units d len_of h chars units ks values,
)
at_indexes-from_units d len_of h chars units _ _ long e = absurd (omega arith)

row_each : {X : Type 0} (d w : X) (units xs ys : List X) (u n j : ℕ) → j < n → at_indexes d units (range_with_len u n) ++ xs ≡ replicate n w ++ ys → get_or units (u + j) d ≡ w
row_each d w units xs ys u zero j below e = absurd (omega arith)
row_each d w units xs ys u (suc n) zero below e = (let here : u + 0 ≡ u = omega arith in ap (λ (p : ℕ). get_or units p d) here) ∙ cc e
row_each d w units xs ys u (suc n) (suc j) below e = (let next : u + suc j ≡ u + 1 + j = omega arith in ap (λ (p : ℕ). get_or units p d) next) ∙ row_each d w units xs ys (u + 1) n j (omega arith) (cc e)

-- at each unit of the characters
pub get_or-from_units : {X : Type 0} (d : X) (len_of : ℕ → ℕ) (chars : List ℕ) (units : List X) (ks : List ℕ) (values : List X)
    → length values ≡ length ks → at_indexes d units (units_of_chars len_of chars ks) ≡ per_unit len_of (at_indexes 0 chars ks) values
    → (i j : ℕ) → i < length ks → j < len_of (get_or chars (get_or ks i 0) 0) → get_or units (unit_index len_of chars (get_or ks i 0) + j) d ≡ get_or values i d
get_or-from_units {X} d len_of chars units (k ∷ ks) (v ∷ values) long e zero j fits below = grind (arith, row_each, at_indexes-append)
get_or-from_units {X} d len_of chars units (k ∷ ks) (v ∷ values) long e (suc i) j fits below =
    grind (arith, get_or-from_units d len_of chars units ks values, row_rest, at_indexes-append)
get_or-from_units d len_of chars units _ _ long e i j fits below = absurd (omega arith)

-- ---- where nothing else is written, the units of each character stay alike

-- the index stands in the list, or is none of it
among : (k : ℕ) (ks : List ℕ) → ((i : ℕ) × (i < length ks) × (get_or ks i 0 ≡ k)) ⊎ All (λ q. q ≢ k) ks
among k [] = inr (All-nil (λ (q : ℕ). q ≢ k))
among k (q ∷ ks) = elim (cases_eq q k) [
  | inl same ↦ inl (0, omega arith, same)
  | inr other ↦ elim (among k ks) [
    | inl w ↦ inl (suc w.0, omega (arith, w.1), w.2)
    | inr none ↦ inr (All-cons (λ (q : ℕ). q ≢ k) q ks other none)
  ]
]

row_without : (p u n : ℕ) → (p < u) ⊎ (u + n ≤ p) → All (λ q. q ≢ p) (range_with_len u n)
row_without p u zero out = All-nil (λ (q : ℕ). q ≢ p)
row_without p u (suc n) out = All-cons (λ (q : ℕ). q ≢ p) u (range_with_len (u + 1) n) (λ same. omega arith) (row_without p (u + 1) n (grind arith))

-- the units of a character are not those of others
units_without : (len_of : ℕ → ℕ) (chars : List ℕ) (k j : ℕ) → k < length chars → j < len_of (get_or chars k 0) → (ks : List ℕ)
    → AreIndexes chars ks → All (λ q. q ≢ k) ks → All (λ q. q ≢ unit_index len_of chars k + j) (units_of_chars len_of chars ks)
units_without len_of chars k j fits below [] are none = All-nil (λ (q : ℕ). q ≢ unit_index len_of chars k + j)
units_without len_of chars k j fits below (q ∷ ks) are none =
    let within = All-head (λ (i : ℕ). i < length chars) q ks are in
    let other = All-head (λ (i : ℕ). i ≢ k) q ks none in
    All-append (λ (p : ℕ). p ≢ unit_index len_of chars k + j) (units_of_char len_of chars q) (units_of_chars len_of chars ks)
    (row_without _ (unit_index len_of chars q) _ (grind (
      arith,
      unit_index-mono,
      unit_index-more len_of chars k 0,
      unit_index-more len_of chars q 0,
    )))
    (units_without len_of chars k j fits below ks (All-tail (λ (i : ℕ). i < length chars) q ks are) (All-tail (λ (i : ℕ). i ≢ k) q ks none))

pub IsPerChar-units : {X : Type 0} (d : X) (len_of : ℕ → ℕ) → HasUnits len_of
    → (chars : List ℕ) (values new : List X) (ks : List ℕ) (answers : List X) → length values ≡ length chars → AreIndexes chars ks
    → length answers ≡ length ks
    → length new ≡ text_len len_of chars → at_indexes d new (units_of_chars len_of chars ks) ≡ per_unit len_of (at_indexes 0 chars ks) answers
    → ((u : ℕ) → All (λ q. q ≢ u) (units_of_chars len_of chars ks) → get_or new u d ≡ get_or (per_unit len_of chars values) u d) → IsPerChar len_of chars new
IsPerChar-units {X} d len_of h chars values new ks answers long are many size e stays =
    let now = per_char d len_of chars new in
    let count : length now ≡ length chars = length-per_char d len_of chars new in (
      now,
      count,
      ext_get_or d new (per_unit len_of chars now) (grind (arith, length-per_unit)) (λ u below.
          let w = unit_of len_of chars u (omega arith) in
          rw w.at_place (alike w.index w.offset w.within w.below
          ∙ simp (get_or-per_unit len_of chars now w.index w.offset 0 d count w.within w.below, get_or-per_char d len_of chars new w.index d w.within))),
    )
  where
    alike : (k j : ℕ) → k < length chars → j < len_of (get_or chars k 0) → get_or new (unit_index len_of chars k + j) d ≡ get_or new (unit_index len_of chars k) d
    alike k j fits below =
        let first : unit_index len_of chars k + 0 ≡ unit_index len_of chars k = omega arith in
        let each : (v : X) × ((j : ℕ) → j < len_of (get_or chars k 0) → get_or new (unit_index len_of chars k + j) d ≡ v) = elim (among k ks) [
          | inl w ↦ (get_or answers w.0 d, grind (arith, get_or-from_units))
          | inr none ↦ (
            get_or values k d,
            λ j below.
                grind (arith, stays (unit_index len_of chars k + j) (units_without len_of chars k j fits below ks are none), get_or-per_unit),
          )
        ] in
        each.1 j below ∙ sym (simp first at (each.1 0 (omega arith)))

-- ---- the units that are read

filter_all : (test : ℕ → Bool) (u n : ℕ) → ((p : ℕ) → u ≤ p → p < u + n → test p ≡ true) → filter test (range_with_len u n) ≡ range_with_len u n
filter_all test u zero each = refl
filter_all test u (suc n) each = grind (arith, filter_all test (u + 1) n)

module _ (len_of : ℕ → ℕ) (h : HasUnits len_of) (chars : List ℕ) (values : List BidiClass) (long : length values ≡ length chars) where
  abbrev reads : ℕ → Bool
  reads u = is_kept_in_place (class_at (per_unit len_of chars values) u)

  abbrev reads_char : ℕ → Bool
  reads_char k = reads (unit_index len_of chars k)

  -- of the n characters from i on
  in_line : (i n : ℕ) → i + n ≤ length chars → filter reads (between (unit_index len_of chars i) (unit_index len_of chars (i + n))) ≡ units_of_chars len_of chars (filter reads_char (range_with_len i n))
  in_line i zero fits = grind arith
  in_line i (suc n) fits =
      let a = unit_index len_of chars i in
      let b = a + len_of (get_or chars i 0) in
      let end = unit_index len_of chars (i + suc n) in
      let step : unit_index len_of chars (i + 1) ≡ b = unit_index-more len_of chars i 0 (omega arith) in
      let count : end - a ≡ len_of (get_or chars i 0) + (end - b) =
      omega (arith, unit_index-mono len_of chars (i + 1) (i + suc n) (omega arith)) in
      let next : i + 1 + n ≡ i + suc n = omega arith in
      let rest = simp (next, step) at (in_line (i + 1) n (omega arith)) in
      let one : (p : ℕ) → a ≤ p → p < b → reads p ≡ reads a = λ p from below.
      let at : a + (p - a) ≡ p = omega arith in
      grind (
        arith,
        simp at at (get_or-per_unit len_of chars values i (p - a) 0 L long (omega arith) (omega arith)),
        get_or-per_unit-unit_index,
      ) in
      simp (count, range_with_len-append, filter-append) (grind (
        arith,
        rest,
        one,
        filter_all reads a,
        filter_range-none reads a,
      ))

  pub read_units-is : (runs : List (ℕ × ℕ)) → AreLines len_of chars runs
      → filter (λ u. is_kept_in_place (class_at (per_unit len_of chars values) u)) (units_in_runs runs) ≡ units_of_chars len_of chars (kept_in_place len_of chars (per_unit len_of chars values) runs)
  unfolding kept_in_place chars_in_runs
  read_units-is [] lines = refl
  read_units-is (r ∷ runs) lines =
      let i = char_index len_of chars r.0 in
      let w = line_unit_indexes len_of h chars r.0 r.1 (All-head (λ (q : ℕ × ℕ). IsLine len_of chars q.0 q.1) r runs lines) in
      let whole : i + (char_index len_of chars r.1 - i) ≡ char_index len_of chars r.1 = omega (arith, w.ordered) in
      let here = simp (whole, ← w.begins, ← w.ends) at (in_line i (char_index len_of chars r.1 - i)
      (omega (arith, w.within))) in
      simp (filter-append, flat_map-append, here, read_units-is runs (All-tail (λ (q : ℕ × ℕ). IsLine len_of chars q.0 q.1) r runs lines))

  -- ---- a pass over the units that are read

  range_below : (low n high : ℕ) → low + n ≤ high → All (λ k. k < high) (range_with_len low n)
  range_below low zero high order = All-nil (λ (k : ℕ). k < high)
  range_below low (suc n) high order = All-cons (λ (k : ℕ). k < high) low (range_with_len (low + 1) n) (omega arith) (range_below (low + 1) n high (omega arith))

  pub kept_in_place-AreIndexes : (runs : List (ℕ × ℕ)) → AreLines len_of chars runs → AreIndexes chars (kept_in_place len_of chars (per_unit len_of chars values) runs)
  unfolding kept_in_place chars_in_runs
  kept_in_place-AreIndexes runs lines = All-filter reads_char (λ (k : ℕ). k < length chars) (chars_in_runs len_of chars runs) (in_runs_below runs lines)
    where
      in_runs_below : (runs : List (ℕ × ℕ)) → AreLines len_of chars runs → All (λ k. k < length chars) (chars_in_runs len_of chars runs)
      in_runs_below [] lines = All-nil (λ (k : ℕ). k < length chars)
      in_runs_below (r ∷ runs) lines =
          let w = line_unit_indexes len_of h chars r.0 r.1 (All-head (λ (q : ℕ × ℕ). IsLine len_of chars q.0 q.1) r runs lines) in
          All-append (λ (k : ℕ). k < length chars) _ _ (range_below _ _ _ (omega (arith, w.ordered, w.within)))
          (in_runs_below runs (All-tail (λ (q : ℕ × ℕ). IsLine len_of chars q.0 q.1) r runs lines))

  module _ (runs : List (ℕ × ℕ)) (lines : AreLines len_of chars runs) where
    -- the classes at the units that are read, of the list before the pass, are those at the characters, repeated
    pub read_units-old : at_indexes L (per_unit len_of chars values) (filter (λ u. is_kept_in_place (class_at (per_unit len_of chars values) u)) (units_in_runs runs))
        ≡ per_unit len_of (at_indexes 0 chars (kept_in_place len_of chars (per_unit len_of chars values) runs))
        (at_indexes L (per_unit len_of chars values) (map (unit_index len_of chars) (kept_in_place len_of chars (per_unit len_of chars values) runs)))
    read_units-old = grind (arith, at_indexes-units, kept_in_place-AreIndexes, at_indexes-from_units, length-at_indexes, read_units-is)

    -- where the pass leaves the answers of the characters at their units, it leaves them at the characters
    pub read_units-new : (new answers : List BidiClass) → length answers ≡ length (kept_in_place len_of chars (per_unit len_of chars values) runs)
        → at_indexes L new (filter (λ u. is_kept_in_place (class_at (per_unit len_of chars values) u)) (units_in_runs runs)) ≡ per_unit len_of (at_indexes 0 chars (kept_in_place len_of chars (per_unit len_of chars values) runs)) answers
        → at_indexes L new (map (unit_index len_of chars) (kept_in_place len_of chars (per_unit len_of chars values) runs)) ≡ answers
    read_units-new new answers many e = grind (arith, at_indexes-from_units, read_units-is)

    -- and where it writes nothing else, each character has one class still
    pub read_units-per_char : (new answers : List BidiClass) → length answers ≡ length (kept_in_place len_of chars (per_unit len_of chars values) runs) → length new ≡ text_len len_of chars
        → (let us = filter (λ u. is_kept_in_place (class_at (per_unit len_of chars values) u)) (units_in_runs runs) in at_indexes L new us ≡ per_unit len_of (at_indexes 0 chars (kept_in_place len_of chars (per_unit len_of chars values) runs)) answers)
        → ((u : ℕ) → All (λ q. q ≢ u) (filter (λ u. is_kept_in_place (class_at (per_unit len_of chars values) u)) (units_in_runs runs)) → class_at new u ≡ class_at (per_unit len_of chars values) u) → IsPerChar len_of chars new
    read_units-per_char new answers many size e stays =
        grind (arith, read_units-is, IsPerChar-units, kept_in_place-AreIndexes)

    -- so a rule that commutes with repetition may run over the units
    pub read_units-rule : (rule : List BidiClass → List BidiClass) → ((cs : List BidiClass) → length (rule cs) ≡ length cs)
        → ((ds : List ℕ) (cs : List BidiClass) → HaveUnits len_of ds → length cs ≡ length ds → rule (per_unit len_of ds cs) ≡ per_unit len_of ds (rule cs))
        → (new : List BidiClass)
        → (let us = filter (λ u. is_kept_in_place (class_at (per_unit len_of chars values) u)) (units_in_runs runs) in at_indexes L new us ≡ rule (at_indexes L (per_unit len_of chars values) us))
        → (let places = map (unit_index len_of chars) (kept_in_place len_of chars (per_unit len_of chars values) runs) in at_indexes L new places ≡ rule (at_indexes L (per_unit len_of chars values) places))
    read_units-rule rule keeps commutes new e = grind (arith, length-at_indexes, length-map, read_units-new, read_units-old)
