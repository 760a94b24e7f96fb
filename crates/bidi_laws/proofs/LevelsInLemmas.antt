-- The levels of a paragraph do not depend on the order in which its sequences are resolved.
use Rattle.bidi_base.proofs.Common.{◌≡◌, ℕ, suc, ◌+◌, ◌<◌, ◌≤◌, Bool, true, false, not, cond, eqb, List, [], ◌∷◌, map, length, count_by, Option, add-one, refl, sym, ap, ◌∙◌, arith, rules}
use Rattle.bidi_base.proofs.Common.{map-append, sum_by, IsPermutation, sum_by-cons, sum_by-IsPermutation, class_at, at_indexes, is_removed, stored_classes, explicit_levels, explicit_classes}
use Rattle.bidi_base.proofs.Common.{RunSequence, level_at, is_kept_at, kept_indexes, sequences, sequence_levels, AreResolved, level_in, filled_levels, levels_in, flat_map, zip}
use Rattle.bidi_base.specs.declared.char_data.BidiClass.{BidiClass}
use Rattle.bidi_base.specs.declared.data_source.BidiMatchedOpeningBracket.{BidiMatchedOpeningBracket}
use Rattle.std.proofs.lemmas.List.Sums.{sum_by-le-sum_by}
use Rattle.bidi_laws.proofs.SequencesLemmas.{IsPermutation-sequences}
use Rattle.bidi_laws.proofs.LevelTableLemmas.{sum_by-flat_map, level_in-sum, count_by-zip, count_at-range, count_at-in}

-- entries of sequences, each no more than its places
module _ (entries : RunSequence → List (ℕ × ℕ)) (few : (test : ℕ → Bool) (s : RunSequence) → count_by (λ (e : ℕ × ℕ). test e.0) (entries s) ≤ count_by test s.places) where
  once_in_table : (classes : List BidiClass) (seqs : List RunSequence) (p : ℕ) → IsPermutation (kept_indexes classes) (flat_map (λ (s : RunSequence). s.places) seqs)
      → count_by (λ (e : ℕ × ℕ). eqb e.0 p) (flat_map entries seqs) ≤ 1
  unfolding kept_indexes
  once_in_table classes seqs p shared =
      let test : ℕ → Bool = λ q. eqb q p in
      let by_sequence = sum_by-flat_map (λ (e : ℕ × ℕ). cond (eqb e.0 p) 1 0) entries seqs in
      let places = sum_by-flat_map (λ q. cond (eqb q p) 1 0) (λ (s : RunSequence). s.places) seqs in
      let least : sum_by (λ s. count_by (λ (e : ℕ × ℕ). eqb e.0 p) (entries s)) seqs ≤ sum_by (λ (s : RunSequence). count_by (λ q. eqb q p) s.places) seqs
      = grind (arith, sum_by-le-sum_by) in
      let moved : count_by (λ q. eqb q p) (flat_map (λ (s : RunSequence). s.places) seqs) ≡ count_by (λ q. eqb q p) (kept_indexes classes)
      = grind (arith, sum_by-IsPermutation) in
      let one : count_by (λ q. eqb q p) (kept_indexes classes) ≤ 1 = count_at-range (is_kept_at classes) p 0 (length classes) in
      omega arith

  -- the table gives the same in each order of the sequences
  pub level_in-order : (classes : List BidiClass) (seqs other : List RunSequence) (p : ℕ)
      → IsPermutation (kept_indexes classes) (flat_map (λ (s : RunSequence). s.places) seqs) → IsPermutation seqs other
      → level_in (flat_map entries other) p ≡ level_in (flat_map entries seqs) p
  level_in-order classes seqs other p shared moved =
      grind (
        arith,
        once_in_table classes seqs p shared,
        level_in-sum (flat_map entries other) p,
        level_in-sum (flat_map entries seqs) p,
        sum_by-flat_map,
        sum_by-IsPermutation,
      )

few_entries : (source_classes : List BidiClass) (brackets : List (Option BidiMatchedOpeningBracket)) (levels : List ℕ) (classes : List BidiClass) (test : ℕ → Bool) (s : RunSequence)
    → count_by (λ (e : ℕ × ℕ). test e.0) (sequence_levels source_classes brackets levels classes s) ≤ count_by test s.places
unfolding sequence_levels
few_entries source_classes brackets levels classes test s = count_by-zip test s.places _

zip-at_indexes : (new ps : List ℕ) → zip ps (at_indexes 0 new ps) ≡ map (λ p. (p, level_at new p)) ps
zip-at_indexes new [] = refl
zip-at_indexes new (p ∷ ps) = ap {B = List (ℕ × ℕ)} (λ xs. (p, level_at new p) ∷ xs) (zip-at_indexes new ps)

table_of_resolved : (source_classes : List BidiClass) (brackets : List (Option BidiMatchedOpeningBracket)) (levels : List ℕ) (classes : List BidiClass) (new : List ℕ) (seqs : List RunSequence)
    → AreResolved source_classes brackets levels classes new seqs
    → flat_map (sequence_levels source_classes brackets levels classes) seqs ≡ map (λ p. (p, level_at new p)) (flat_map (λ (s : RunSequence). s.places) seqs)
unfolding sequence_levels
table_of_resolved source_classes brackets levels classes new [] h = refl
table_of_resolved source_classes brackets levels classes new (s ∷ seqs) h =
    simp (← h.0, zip-at_indexes, table_of_resolved source_classes brackets levels classes new seqs h.1, map-append)

level_in-map : (new ps : List ℕ) (p : ℕ) → 0 < count_by (λ q. eqb q p) ps → level_in (map (λ q. (q, level_at new q)) ps) p ≡ level_at new p
level_in-map new [] p h = absurd (omega arith)
level_in-map new (q ∷ ps) p h = grind (arith, sum_by-cons, level_in-map new ps p)

-- so the table says what the list has at each kept character
pub level_in-resolved : (para_level : ℕ) (source_classes stored : List BidiClass) (brackets : List (Option BidiMatchedOpeningBracket)) (levels : List ℕ) (classes : List BidiClass) (new : List ℕ) (seqs : List RunSequence) (p : ℕ)
    → IsPermutation (sequences para_level stored levels) seqs → AreResolved source_classes brackets levels classes new seqs → is_kept_at stored p ≡ true → p < length stored
    → level_in (flat_map (sequence_levels source_classes brackets levels classes) (sequences para_level stored levels)) p ≡ level_at new p
unfolding kept_indexes
level_in-resolved para_level source_classes stored brackets levels classes new seqs p moved resolved kept within =
    let entries = sequence_levels source_classes brackets levels classes in
    let here : 0 < count_by (λ q. eqb q p) (kept_indexes stored) = count_at-in (is_kept_at stored) p 0 (length stored) (omega arith) (omega arith) kept in
    let first : count_by (λ q. eqb q p) (flat_map (λ (s : RunSequence). s.places) (sequences para_level stored levels)) ≡ count_by (λ q. eqb q p) (kept_indexes stored)
    = sum_by-IsPermutation (λ q. cond (eqb q p) 1 0) (kept_indexes stored) _ (IsPermutation-sequences stored levels para_level) in
    let second : count_by (λ q. eqb q p) (flat_map (λ (s : RunSequence). s.places) seqs) ≡ count_by (λ q. eqb q p) (flat_map (λ (s : RunSequence). s.places) (sequences para_level stored levels)) =
    search (rules, sum_by-flat_map, sum_by-IsPermutation) in
    sym (level_in-order entries (few_entries source_classes brackets levels classes) stored (sequences para_level stored levels) seqs p (IsPermutation-sequences stored levels para_level) moved)
    ∙ simp (table_of_resolved source_classes brackets levels classes new seqs resolved) (level_in-map new (flat_map (λ (s : RunSequence). s.places) seqs) p (omega arith))

filled_is : (table : List (ℕ × ℕ)) (new : List ℕ) (classes : List BidiClass) (p before : ℕ) → length new ≡ length classes
    → ((k : ℕ) → k < length classes → is_removed (class_at classes k) ≡ false → level_at new k ≡ level_in table (p + k))
    → (0 < length classes → is_removed (class_at classes 0) ≡ true → level_at new 0 ≡ before)
    → ((k : ℕ) → suc k < length classes → is_removed (class_at classes (suc k)) ≡ true → level_at new (suc k) ≡ level_at new k)
    → new ≡ filled_levels table p before classes
unfolding filled_levels
filled_is table [] [] p before long kept front removed = refl
filled_is table [] (c ∷ classes) p before long kept front removed = absurd (omega arith)
filled_is table (v ∷ new) [] p before long kept front removed = absurd (omega arith)
filled_is table (v ∷ new) (c ∷ classes) p before long kept front removed =
    simp (
      ← here,
      ← filled_is table new classes (p + 1) v (omega arith) (λ k below is. kept (suc k) (omega arith) is ∙ ap (level_in table) (omega arith))
          (λ some is. removed 0 (omega arith) is) (λ k below is. removed (suc k) (omega arith) is),
    )
  where
    here : v ≡ cond (is_removed c) before (level_in table p)
    here = grind arith

-- a list is what fills the table, if it has the table's levels at kept characters, and at a removed one the level
-- before it
pub filled_levels-is : (table : List (ℕ × ℕ)) (new : List ℕ) (classes : List BidiClass) (before : ℕ) → length new ≡ length classes
    → ((p : ℕ) → is_kept_at classes p ≡ true → p < length classes → level_in table p ≡ level_at new p)
    → (0 < length classes → is_kept_at classes 0 ≡ false → level_at new 0 ≡ before)
    → ((p : ℕ) → p + 1 < length classes → is_kept_at classes (p + 1) ≡ false → level_at new (p + 1) ≡ level_at new p)
    → new ≡ filled_levels table 0 before classes
filled_levels-is table new classes before long kept front removed =
    filled_is table new classes 0 before long
    (λ k below stays. sym (kept k (ap not stays) below) ∙ ap (level_in table) (omega arith))
    (λ some gone. front some (ap not gone))
    (λ k below gone. simp add-one at (removed k (omega arith) (simp (add-one k, gone))))

-- the levels of a paragraph, as a pass leaves them: some places were resolved, in sequences of any order, and what X9
-- removed was filled
pub levels_in-written : (para_level : ℕ) (source_classes : List BidiClass) (brackets : List (Option BidiMatchedOpeningBracket)) (stored : List BidiClass) (levels : List ℕ) (classes : List BidiClass) (seqs : List RunSequence) (resolved new : List ℕ)
    → stored ≡ stored_classes source_classes → levels ≡ explicit_levels para_level stored → classes ≡ explicit_classes para_level stored → IsPermutation (sequences para_level stored levels) seqs → AreResolved source_classes brackets levels classes resolved seqs
    → length new ≡ length stored
    → ((p : ℕ) → p < length stored → is_kept_at stored p ≡ true → level_at new p ≡ level_at resolved p)
    → (0 < length stored → is_kept_at stored 0 ≡ false → level_at new 0 ≡ para_level)
    → ((p : ℕ) → p + 1 < length stored → is_kept_at stored (p + 1) ≡ false → level_at new (p + 1) ≡ level_at new p)
    → new ≡ levels_in para_level source_classes brackets
unfolding levels_in
levels_in-written para_level source_classes brackets stored levels classes seqs resolved new is_stored is_levels is_classes moved done long kept front removed =
    rw (← is_stored, ← is_levels, ← is_classes) (filled_levels-is _ new stored para_level long
    (λ p stays within. level_in-resolved para_level source_classes stored brackets levels classes resolved seqs p moved done stays within ∙ sym (kept p within stays))
    front removed)
