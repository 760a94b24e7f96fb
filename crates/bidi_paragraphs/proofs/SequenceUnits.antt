-- What the passes over the units of a sequence say about its characters.
use Rattle.bidi_base.proofs.Common.{◌≡◌, ℕ, ◌+◌, ◌-◌, ◌<◌, true, false, List, [], ◌∷◌, length, map, refl, sym, ◌∙◌, arith, inl, inr, common_steps, filter, cases_Bool, cases_lt, both_ways}
use Rattle.bidi_base.proofs.Common.{false_from_ne_true, nat_tests, get_or_past, get_or-map, filter-append, All-head, All-tail, sum_by-append, is_kept_in_place, class_at, at_indexes, between}
use Rattle.bidi_base.proofs.Common.{first_or, is_kept_at, level_at, unit_index, IsLine, char_index, per_unit, AreLines, in_runs, chars_in_runs, kept_in_runs, kept_in_place}
use Rattle.bidi_base.specs.declared.char_data.BidiClass.{BidiClass}
use Rattle.bidi_base.specs.declared.char_data.BidiClass.TheVariants.{L, BN}
use Rattle.bidi_base.proofs.ChainLemmas.{filter_range-agree}
use Rattle.bidi_laws.proofs.LevelTableLemmas.{count_at-in}
use Rattle.bidi_base.proofs.PerUnit.{length-per_unit, get_or-per_unit-unit_index}
use Rattle.bidi_base.proofs.UnitIndexLemmas.{unit_index-lt, unit_index-mono, char_index-le, line_unit_indexes}
use Rattle.bidi_laws.proofs.StoredLemmas.{times_in-first, times_in-later}
use Rattle.bidi_base.proofs.TextLemmas.{HasUnits}
use Rattle.bidi_laws.proofs.SequencePlaces.{times_in-kept, times_in}

-- all of some places are indexes of a text
abbrev pub AreWithin : List ℕ → List ℕ → Type 0
AreWithin chars ps = (p : ℕ) → 0 < times_in ps p → p < length chars

AreWithin-later : (chars : List ℕ) (p : ℕ) (ps : List ℕ) → AreWithin chars (p ∷ ps) → AreWithin chars ps
AreWithin-later chars p ps h = λ q there. h q (omega (arith, there, times_in-later p ps q))

-- what a text says at places
pub at_indexes-map : {X : Type 0} (f : ℕ → X) (d : X) (chars ps : List ℕ) → AreWithin chars ps → map f (at_indexes 0 chars ps) ≡ at_indexes d (map f chars) ps
at_indexes-map f d chars [] h = refl
at_indexes-map f d chars (p ∷ ps) h =
    simp (get_or-map f chars p 0 d (h p (times_in-first p ps)), at_indexes-map f d chars ps (AreWithin-later chars p ps h))

module _ (len_of : ℕ → ℕ) (h : HasUnits len_of) (chars : List ℕ) where
  -- the units at the places of characters have their values
  pub at_indexes-unit_index : {X : Type 0} (d : X) (values units : List X) (ps : List ℕ) → length values ≡ length chars
      → units ≡ per_unit len_of chars values → AreWithin chars ps → at_indexes d units (map (unit_index len_of chars) ps) ≡ at_indexes d values ps
  at_indexes-unit_index d values units [] long is within = refl
  at_indexes-unit_index d values units (p ∷ ps) long is within =
      simp (
        at_indexes-unit_index d values units ps long is (AreWithin-later chars p ps within),
        is,
        get_or-per_unit-unit_index len_of h chars values p d long (within p (times_in-first p ps)),
      )

  -- and so has the first of them
  pub level_at-first : (levels units : List ℕ) (ps : List ℕ) → length levels ≡ length chars → units ≡ per_unit len_of chars levels
      → AreWithin chars ps → level_at units (first_or 0 (map (unit_index len_of chars) ps)) ≡ level_at levels (first_or 0 ps)
  level_at-first levels units ps long is within = grind (arith, common_steps, get_or-per_unit-unit_index, length-per_unit)

  -- where BN stands exactly for what X9 removed, what is read is what it keeps
  pub kept_in_place-kept : (stored values classes : List BidiClass) (runs : List (ℕ × ℕ)) → length values ≡ length chars → classes ≡ per_unit len_of chars values
      → ((p : ℕ) → p < length chars → is_kept_in_place (class_at values p) ≡ is_kept_at stored p) → kept_in_place len_of chars classes runs ≡ kept_in_runs len_of chars stored runs
  unfolding kept_in_place kept_in_runs chars_in_runs
  kept_in_place-kept stored values classes [] long is read = refl
  kept_in_place-kept stored values classes (r ∷ runs) long is read =
      let i = char_index len_of chars r.0 in
      let here = filter_range-agree (λ k. is_kept_in_place (class_at classes (unit_index len_of chars k))) (is_kept_at stored) i (char_index len_of chars r.1 - i)
      (λ k from below. grind (arith, char_index-le len_of chars r.1, get_or-per_unit-unit_index len_of h chars values k L, read k)) in
      simp (filter-append, here, kept_in_place-kept stored values classes runs long is read)

  times_in-kept_in_runs : (stored : List BidiClass) (r : ℕ × ℕ) (runs : List (ℕ × ℕ)) (p : ℕ) → times_in (kept_in_runs len_of chars stored (r ∷ runs)) p
      ≡ times_in (filter (is_kept_at stored) (between (char_index len_of chars r.0) (char_index len_of chars r.1))) p + times_in (kept_in_runs len_of chars stored runs) p
  unfolding kept_in_runs chars_in_runs
  times_in-kept_in_runs stored r runs p = simp (filter-append, sum_by-append)

  -- the kept characters of some runs are kept, and stand in the text
  pub kept_in_runs-within : (stored : List BidiClass) (runs : List (ℕ × ℕ)) → AreWithin chars (kept_in_runs len_of chars stored runs)
  unfolding kept_in_runs chars_in_runs
  kept_in_runs-within stored [] = λ p there. absurd (omega arith)
  kept_in_runs-within stored (r ∷ runs) = λ p there.
      let found = times_in-kept (is_kept_at stored) p (char_index len_of chars r.0) (char_index len_of chars r.1 - char_index len_of chars r.0) in
      grind (arith, there, times_in-kept_in_runs stored r runs p, kept_in_runs-within stored runs p, found, char_index-le len_of chars r.1, char_index-le len_of chars r.0)

  -- a kept character of which a unit stands in some runs is one of theirs
  pub kept_in_runs-in : (stored : List BidiClass) (runs : List (ℕ × ℕ)) (p : ℕ) → AreLines len_of chars runs → p < length chars
      → is_kept_at stored p ≡ true → in_runs runs (unit_index len_of chars p) ≡ true → 0 < times_in (kept_in_runs len_of chars stored runs) p
  unfolding kept_in_runs chars_in_runs
  kept_in_runs-in stored [] p lines fits kept inside = absurd (both_ways false refl inside)
  kept_in_runs-in stored (r ∷ runs) p lines fits kept inside =
      let i = char_index len_of chars r.0 in
      let j = char_index len_of chars r.1 in
      let w = line_unit_indexes len_of h chars r.0 r.1 (All-head (λ (q : ℕ × ℕ). IsLine len_of chars q.0 q.1) r runs lines) in
      let later = kept_in_runs-in stored runs p (All-tail (λ (q : ℕ × ℕ). IsLine len_of chars q.0 q.1) r runs lines) fits kept in
      grind (
        arith,
        nat_tests,
        times_in-kept_in_runs stored r runs p,
        unit_index-lt len_of chars h p i,
        unit_index-mono len_of chars j p,
        w,
        count_at-in (is_kept_at stored) p i (j - i),
        later,
      )

  -- a pass that leaves BN and what is outside some runs changes no other character than theirs
  pub stays_elsewhere : (stored old new classes classes' : List BidiClass) (runs : List (ℕ × ℕ)) → AreLines len_of chars runs
      → length old ≡ length chars → length new ≡ length chars → classes ≡ per_unit len_of chars old → classes' ≡ per_unit len_of chars new
      → ((p : ℕ) → p < length chars → is_kept_in_place (class_at old p) ≡ is_kept_at stored p)
      → ((u : ℕ) → class_at classes u ≡ BN → class_at classes' u ≡ BN) → ((u : ℕ) → in_runs runs u ≡ false → class_at classes' u ≡ class_at classes u)
      → (p : ℕ) → times_in (kept_in_runs len_of chars stored runs) p ≡ 0 → class_at new p ≡ class_at old p
  stays_elsewhere stored old new classes classes' runs lines long long' is is' read removed outside p none = elim (cases_lt p (length chars)) [
    | inl fits ↦
        let first : class_at classes (unit_index len_of chars p) ≡ class_at old p = simp (is, get_or-per_unit-unit_index len_of h chars old p L long fits) in
        let second : class_at classes' (unit_index len_of chars p) ≡ class_at new p = simp (is', get_or-per_unit-unit_index len_of h chars new p L long' fits) in
        elim (cases_Bool (is_kept_at stored p)) [
          | inl kept ↦ sym second ∙ outside (unit_index len_of chars p) (false_from_ne_true _ (λ inside. omega (arith, none, kept_in_runs-in stored runs p lines fits kept inside))) ∙ first
          | inr gone ↦ let was : class_at old p ≡ BN = grind (arith, read p fits) in cc (second, removed (unit_index len_of chars p) (first ∙ was), was)
        ]
    | inr past ↦ get_or_past new p L (omega (arith, long', past)) ∙ sym (get_or_past old p L (omega (arith, long, past)))
  ]
