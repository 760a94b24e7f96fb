-- The first unit of some runs that is kept, and the first character.
use Rattle.bidi_base.proofs.Common.{◌≡◌, ℕ, zero, suc, ◌+◌, ◌-◌, ◌<◌, ◌≤◌, Bool, true, false, List, [], ◌∷◌, ◌++◌, length, map, get_or, take, find, Some, None, slice_get, refl, arith}
use Rattle.bidi_base.proofs.Common.{range_with_len, option_or, Range, cases_Bool, flat_map-append, common_steps, map-append, take-append-drop, All-head, All-tail, filter-append, find-append}
use Rattle.bidi_base.proofs.Common.{is_kept_in_place, between, class_at, first_or, unit_index, IsLine, char_index, IsPerChar, bounds, chars_in_runs, kept_in_place, units_in_runs, AreLines}
use Rattle.bidi_base.specs.declared.char_data.BidiClass.{BidiClass}
use Rattle.bidi_base.proofs.UnitIndexLemmas.{line_unit_indexes, unit_index-lt, unit_index-mono}
use Rattle.bidi_base.proofs.TextLemmas.{HasUnits}
use Rattle.bidi_base.proofs.PlacesLemmas.{find-between-is, find-between-is_None}
use Rattle.bidi_rules.specs.NeutralPass.{kept_among}
use Rattle.bidi_explicit.proofs.PassOverText.{alike_class}
use Rattle.bidi_explicit.proofs.WalkLemmas.{no_range}
use Rattle.bidi_explicit.proofs.Marks.{between-append}

-- ---- a search through the runs one after another

module _ (test : ℕ → Bool) (runs : List (Range ℕ)) (i : ℕ) (fits : i < length runs) (before : find test (units_in_runs (map bounds (take i runs))) ≡ None) where
  abbrev units_of : List (Range ℕ) → List ℕ
  units_of rs = units_in_runs (map bounds rs)

  units_of-append : (rs qs : List (Range ℕ)) → units_of (rs ++ qs) ≡ units_of rs ++ units_of qs
  units_of-append rs qs = grind (arith, map-append, flat_map-append) steps 400000

  -- the run at i decides, if it has such a unit
  find-next : find test (units_of (take (i + 1) runs)) ≡ find test (between (get_or runs i no_range).start (get_or runs i no_range).end)
  find-next = grind (arith, common_steps, find-append)

  pub find-passes : ((k : ℕ) → (get_or runs i no_range).start ≤ k → k < (get_or runs i no_range).end → test k ≡ false) → find test (units_in_runs (map bounds (take (i + 1) runs))) ≡ None
  find-passes none = grind (arith, find-next, find-between-is_None) steps 400000

  pub find-stops : (u : ℕ) → (get_or runs i no_range).start ≤ u → u < (get_or runs i no_range).end → ((k : ℕ) → (get_or runs i no_range).start ≤ k → k < u → test k ≡ false) → test u ≡ true
      → find test (units_in_runs (map bounds runs)) ≡ Some u
  find-stops u from below none here =
      let r = get_or runs i no_range in
      grind (
        arith,
        take-append-drop (i + 1) runs,
        units_of-append,
        find-append,
        find-next,
        find-between-is test r.start r.end u,
      )

-- ---- what it finds is the place of the first character that is read

first-append : {X : Type 0} (xs ys : List X) → slice_get (xs ++ ys) 0 ≡ option_or (slice_get xs 0) (slice_get ys 0)
first-append [] ys = refl
first-append (x ∷ xs) ys = refl

module _ (len_of : ℕ → ℕ) (h : HasUnits len_of) (chars : List ℕ) (classes : List BidiClass) (per : IsPerChar len_of chars classes) where
  abbrev reads : ℕ → Bool
  reads u = is_kept_in_place (class_at classes u)

  -- of the n characters from i on
  first_in_line : (i n : ℕ) → i + n ≤ length chars
      → find reads (between (unit_index len_of chars i) (unit_index len_of chars (i + n))) ≡ slice_get (map (unit_index len_of chars) (kept_among len_of chars classes (range_with_len i n))) 0
  first_in_line i zero fits = grind arith
  first_in_line i (suc n) fits =
      let a = unit_index len_of chars i in
      let b = unit_index len_of chars (i + 1) in
      let next : i + 1 + n ≡ i + suc n = omega arith in
      let some = unit_index-lt len_of chars h i (i + 1) (omega arith) (omega arith) in
      let order = unit_index-mono len_of chars (i + 1) (i + suc n) (omega arith) in
      let rest = simp next at (first_in_line (i + 1) n (omega arith)) in
      simp (
        between-append a b (unit_index len_of chars (i + suc n)) (omega arith) order,
        find-append,
      ) (grind (arith, cases_Bool (reads a), find-between-is reads a b a, find-between-is_None, alike_class))

  pub first_kept-is : (runs : List (ℕ × ℕ)) → AreLines len_of chars runs → find reads (units_in_runs runs) ≡ slice_get (map (unit_index len_of chars) (kept_in_place len_of chars classes runs)) 0
  unfolding kept_in_place chars_in_runs
  first_kept-is [] lines = refl
  first_kept-is (r ∷ runs) lines =
      let i = char_index len_of chars r.0 in
      let j = char_index len_of chars r.1 in
      let w = line_unit_indexes len_of h chars r.0 r.1 (All-head (λ (q : ℕ × ℕ). IsLine len_of chars q.0 q.1) r runs lines) in
      let whole : i + (j - i) ≡ j = omega (arith, w.ordered) in
      let rest = first_kept-is runs (All-tail (λ (q : ℕ × ℕ). IsLine len_of chars q.0 q.1) r runs lines) in
      let here = first_in_line i (j - i) (omega (arith, w.within)) in
      simp (find-append, filter-append, map-append, first-append, rest, ← here, whole, ← w.begins, ← w.ends)

-- what that says of the list
pub first-Some : (us : List ℕ) (u : ℕ) → slice_get us 0 ≡ Some u → first_or 0 us ≡ u
first-Some us u e = grind arith

pub first-None : (us : List ℕ) → slice_get us 0 ≡ None → us ≡ []
first-None [] e = refl
first-None (x ∷ us) e = absurd (cc e)
