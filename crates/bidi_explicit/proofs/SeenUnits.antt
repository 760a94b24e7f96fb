-- The units of a sequence that are not BN: those that a pass over units reads, and the characters that they belong to.
use Rattle.bidi_base.proofs.Common.{◌≡◌, ◌≢◌, ℕ, zero, suc, ◌+◌, ◌<◌, ◌≤◌, Bool, true, false, List, [], ◌∷◌, ◌++◌, length, map, replicate, refl, ◌∙◌, arith, inl, inr, filter, All, list_all}
use Rattle.bidi_base.proofs.Common.{range_with_len, cases_Bool, and_parts, and_from, and_left, length-map, All-head, All-tail, filter-append, is_kept_in_place, at_indexes, between, class_at, unit_index}
use Rattle.bidi_base.proofs.Common.{per_unit, IsPerChar, are_ordered_from, are_ordered, in_runs, kept_in_place, units_in_runs, AreLines, list_all-append}
use Rattle.bidi_base.specs.declared.char_data.BidiClass.{BidiClass}
use Rattle.bidi_base.specs.declared.char_data.BidiClass.TheVariants.{L}
use Rattle.bidi_laws.proofs.StoredLemmas.{length-at_indexes, at_indexes-append}
use Rattle.bidi_base.proofs.TextLemmas.{HasUnits}
use Rattle.bidi_base.proofs.UnitsLemmas.{length-from_IsPerChar}
use Rattle.bidi_laws.proofs.Repeated.{HaveUnits-every, HaveUnits}
use Rattle.bidi_laws.proofs.RepeatedPlaces.{read_units-old, read_units-rule, read_units-per_char}
use Rattle.bidi_explicit.specs.SequenceUnits.{seen_units}
use Rattle.bidi_explicit.specs.SequenceUnits.{is_seen}
use Rattle.bidi_explicit.proofs.InRuns.{in_run-above, gap_before}
use Rattle.bidi_explicit.proofs.Marks.{marked, marked-parts, marked-empty, marked-one}
use Rattle.bidi_explicit.proofs.PassOverText.{in_runs-within}
use Rattle.bidi_explicit.proofs.WalkLemmas.{are_ordered-front, are_ordered-lower}

-- two tests that agree in a range keep the same units
same_counted : (t u : ℕ → Bool) (low n : ℕ) → ((k : ℕ) → low ≤ k → k < low + n → t k ≡ u k) → filter t (range_with_len low n) ≡ filter u (range_with_len low n)
same_counted t u low zero h = refl
same_counted t u low (suc n) h = grind (arith, h low, same_counted t u (low + 1) n)

marked-alike : (t u : ℕ → Bool) (low high : ℕ) → ((k : ℕ) → low ≤ k → k < high → t k ≡ u k) → marked t low high ≡ marked u low high
marked-alike t u low high h = grind (arith, same_counted)

all_behind : (P : ℕ → Type 0) (xs ys : List ℕ) → All P (xs ++ ys) → All P ys
all_behind P [] ys a = a
all_behind P (x ∷ xs) ys a = all_behind P xs ys (All-tail P x (xs ++ ys) a)

module _ (classes : List BidiClass) where
  abbrev kept_at : ℕ → Bool
  kept_at u = is_kept_in_place (class_at classes u)

  seen-from : (low : ℕ) (runs : List (ℕ × ℕ)) → low ≤ length classes → are_ordered_from low runs ≡ true → All (λ r. r.1 ≤ length classes) runs
      → marked (is_seen runs classes) low (length classes) ≡ filter kept_at (units_in_runs runs)
  seen-from low [] fits ordered within = marked-empty (is_seen [] classes) low (length classes) (λ k from below. refl)
  seen-from low (r ∷ runs) fits ordered within =
      let f = are_ordered-front low r runs ordered in
      let from = f.from in
      let some = f.not_empty in
      let end : r.1 ≤ length classes = All-head (λ (q : ℕ × ℕ). q.1 ≤ length classes) r runs within in
      let all = is_seen (r ∷ runs) classes in
      let rest : marked all r.1 (length classes) ≡ filter kept_at (units_in_runs runs) =
      marked-alike all (is_seen runs classes) r.1 (length classes) (λ k a b. simp (in_run-above r k a)) ∙ seen-from r.1 runs end f.later (All-tail (λ (q : ℕ × ℕ). q.1 ≤ length classes) r runs within) in
      let inside : marked all r.0 r.1 ≡ filter kept_at (between r.0 r.1) = grind (arith, marked-alike) in
      let before : marked all low r.0 ≡ [] = marked-empty all low r.0 (λ k a b. and_left (in_runs (r ∷ runs) k) (kept_at k) (gap_before 0 (r ∷ runs) k (length classes) (are_ordered-lower 0 low (r ∷ runs) (omega arith) ordered) b)) in
      simp (marked-parts all low r.0 (length classes) from (omega arith), before, marked-parts all r.0 r.1 (length classes) (omega arith) end, inside, rest, filter-append)

  pub seen_units-is : (runs : List (ℕ × ℕ)) → are_ordered runs ≡ true → All (λ r. r.1 ≤ length classes) runs → seen_units runs classes ≡ filter kept_at (units_in_runs runs)
  seen_units-is runs ordered within = seen-from 0 runs (omega arith) ordered within

  -- one of them stands after those below it
  pub seen_at : (runs : List (ℕ × ℕ)) (u : ℕ) → u < length classes → is_seen runs classes u ≡ true
      → seen_units runs classes ≡ marked (is_seen runs classes) 0 u ++ u ∷ marked (is_seen runs classes) (u + 1) (length classes)
  seen_at runs u fits here =
      let mark = is_seen runs classes in
      grind (
        arith,
        marked-one mark u (u + 1),
        marked-parts mark 0 u (length classes),
        marked-parts mark u (u + 1) (length classes),
      )

  -- a unit that differs from all of them is none of them
  not_seen : (runs : List (ℕ × ℕ)) (u : ℕ) → u < length classes → All (λ q. q ≢ u) (seen_units runs classes) → is_seen runs classes u ≡ false
  not_seen runs u fits differ = elim (cases_Bool (is_seen runs classes u)) [
    | inl yes' ↦
        let above = marked (is_seen runs classes) (u + 1) (length classes) in
        let here = all_behind (λ q. q ≢ u) (marked (is_seen runs classes) 0 u) (u ∷ above) (simp (seen_at runs u fits yes') at differ) in
        absurd (All-head (λ q. q ≢ u) u above here refl)
    | inr no' ↦ no'
  ]

-- what reads the same as kept keeps the same characters
pub kept_in_place-alike : (len_of : ℕ → ℕ) (chars : List ℕ) (old new : List BidiClass) (runs : List (ℕ × ℕ)) → ((u : ℕ) → is_kept_in_place (class_at new u) ≡ is_kept_in_place (class_at old u))
    → kept_in_place len_of chars new runs ≡ kept_in_place len_of chars old runs
unfolding kept_in_place
kept_in_place-alike len_of chars old new runs same = grind arith

-- at the units of the characters that are seen stands an answer for each, and nothing else was written
module _ (len_of : ℕ → ℕ) (h : HasUnits len_of) (chars : List ℕ) (old : List BidiClass) (per : IsPerChar len_of chars old) (runs : List (ℕ × ℕ))
    (lines : AreLines len_of chars runs) (ordered : are_ordered runs ≡ true)
    (within : All (λ r. r.1 ≤ length old) runs) (new answers : List BidiClass) (many : length answers ≡ length (kept_in_place len_of chars old runs))
    (is : at_indexes L new (filter (λ u. is_kept_in_place (class_at old u)) (units_in_runs runs)) ≡ per_unit len_of (at_indexes 0 chars (kept_in_place len_of chars old runs)) answers) where
  pub answered-IsPerChar : length new ≡ length old → ((u : ℕ) → is_seen runs old u ≡ false → class_at new u ≡ class_at old u) → IsPerChar len_of chars new
  answered-IsPerChar long others =
      read_units-per_char len_of h chars per.0 per.1 runs lines new answers (simp per.2 at many) (long ∙ length-from_IsPerChar len_of chars old per) (simp per.2 at is)
      (rw per.2 at (λ (u : ℕ) (differ : All (λ q. q ≢ u) (filter (λ u. is_kept_in_place (class_at old u)) (units_in_runs runs))). others u (stays u differ)))
    where
      stays : (u : ℕ) → All (λ q. q ≢ u) (filter (λ u. is_kept_in_place (class_at old u)) (units_in_runs runs)) → is_seen runs old u ≡ false
      stays u differ = grind (arith, not_seen, seen_units-is, length-from_IsPerChar len_of chars old per, in_runs-within len_of h chars runs lines u)

-- a rule that commutes with repetition was applied to the units that are seen, and nothing else was written
module _ (len_of : ℕ → ℕ) (h : HasUnits len_of) (chars : List ℕ) (old : List BidiClass) (per : IsPerChar len_of chars old) (runs : List (ℕ × ℕ))
    (lines : AreLines len_of chars runs) (ordered : are_ordered runs ≡ true)
    (within : All (λ r. r.1 ≤ length old) runs) (rule : List BidiClass → List BidiClass) (keeps : (cs : List BidiClass) → length (rule cs) ≡ length cs)
    (commutes : (ds : List ℕ) (cs : List BidiClass) → HaveUnits len_of ds → length cs ≡ length ds → rule (per_unit len_of ds cs) ≡ per_unit len_of ds (rule cs))
    (new : List BidiClass) (is : at_indexes L new (seen_units runs old) ≡ rule (at_indexes L old (seen_units runs old))) where
  abbrev seen_of : List BidiClass → List ℕ
  seen_of us = filter (λ u. is_kept_in_place (class_at us u)) (units_in_runs runs)

  over_units : at_indexes L new (seen_of (per_unit len_of chars per.0)) ≡ rule (at_indexes L (per_unit len_of chars per.0) (seen_of (per_unit len_of chars per.0)))
  over_units = grind (arith, seen_units-is)

  pub ruled-places : (let places = map (unit_index len_of chars) (kept_in_place len_of chars old runs) in at_indexes L new places ≡ rule (at_indexes L old places))
  ruled-places = simp per.2 (read_units-rule len_of h chars per.0 per.1 runs lines rule keeps commutes new over_units)

  pub ruled-IsPerChar : length new ≡ length old → ((u : ℕ) → is_seen runs old u ≡ false → class_at new u ≡ class_at old u) → IsPerChar len_of chars new
  ruled-IsPerChar long others =
      let ds = at_indexes 0 chars (kept_in_place len_of chars old runs) in
      let cs = at_indexes L old (map (unit_index len_of chars) (kept_in_place len_of chars old runs)) in
      let many : length cs ≡ length (kept_in_place len_of chars old runs) = grind (arith, length-at_indexes, length-map) in
      let at_old : at_indexes L old (seen_of old) ≡ per_unit len_of ds cs = simp per.2
      (read_units-old len_of h chars per.0 per.1 runs lines) in
      answered-IsPerChar len_of h chars old per runs lines ordered within new (rule cs) (keeps cs ∙ many)
      (grind (arith, seen_units-is, commutes ds cs, HaveUnits-every len_of h ds, length-at_indexes)) long others

-- a test that holds of the classes of the characters holds of those of their units
all_replicate : (test : BidiClass → Bool) (n : ℕ) (c : BidiClass) → test c ≡ true → list_all test (replicate n c) ≡ true
all_replicate test zero c h = refl
all_replicate test (suc n) c h = and_from (test c) (list_all test (replicate n c)) h (all_replicate test n c h)

all_units : (test : BidiClass → Bool) (len_of : ℕ → ℕ) (chars : List ℕ) (cs : List BidiClass) → list_all test cs ≡ true → list_all test (per_unit len_of chars cs) ≡ true
all_units test len_of [] cs h = refl
all_units test len_of (d ∷ ds) [] h = refl
all_units test len_of (d ∷ ds) (c ∷ cs) h = grind (arith, list_all-append, all_replicate, all_units test len_of ds cs)

pub seen-every : (len_of : ℕ → ℕ) (h : HasUnits len_of) (chars : List ℕ) (classes : List BidiClass) → IsPerChar len_of chars classes
    → (runs : List (ℕ × ℕ)) → AreLines len_of chars runs → are_ordered runs ≡ true
    → All (λ r. r.1 ≤ length classes) runs → (test : BidiClass → Bool) → list_all test (at_indexes L classes (map (unit_index len_of chars) (kept_in_place len_of chars classes runs))) ≡ true
    → (u : ℕ) → is_seen runs classes u ≡ true → test (class_at classes u) ≡ true
seen-every len_of h chars classes per runs lines ordered within test all u seen =
    let fits : u < length classes =
    omega (arith, length-from_IsPerChar len_of chars classes per, in_runs-within len_of h chars runs lines u (and_parts (in_runs runs u) (is_kept_in_place (class_at classes u)) seen).0) in
    let us = per_unit len_of chars per.0 in
    let each : list_all test (at_indexes L classes (filter (λ u. is_kept_in_place (class_at classes u)) (units_in_runs runs))) ≡ true =
    simp (per.2, read_units-old len_of h chars per.0 per.1 runs lines) (all_units test len_of (at_indexes 0 chars (kept_in_place len_of chars us runs)) (at_indexes L us (map (unit_index len_of chars) (kept_in_place len_of chars us runs))) (simp per.2 at all)) in
    grind (arith, seen_at classes runs u, seen_units-is classes runs ordered within, at_indexes-append, list_all-append)
