-- What the levels of sequences are, once some of them are resolved and once all are: bounds, and what they do not
-- depend on.
use Rattle.bidi_base.proofs.Common.{◌≡◌, ℕ, suc, ◌+◌, ◌<◌, ◌≤◌, true, cond, eqb, List, [], ◌∷◌, ◌++◌, length, get_or, map, count_by, Option, None, refl, ap, ◌∙◌, arith, rules, AllByRecursion}
use Rattle.bidi_base.proofs.Common.{length-map, map-append, sum_by-cons, sum_by-append, is_removed, first_or, Source, stored_classes, explicit_levels, explicit_classes, RunSequence, is_kept_at}
use Rattle.bidi_base.proofs.Common.{level_at, sequences, weak_classes, n0_pair, n0, neutral_classes, implicit_levels, resolved_levels, sequence_levels, level_in, filled_levels, levels_in}
use Rattle.bidi_base.proofs.Common.{stored_levels, All-from_recursion, flat_map, zip}
use Rattle.bidi_base.specs.declared.char_data.BidiClass.{BidiClass}
use Rattle.bidi_base.specs.declared.char_data.BidiClass.TheVariants.{BN}
use Rattle.bidi_base.specs.declared.data_source.BidiMatchedOpeningBracket.{BidiMatchedOpeningBracket}
use Rattle.std.specs.List.{All}
use Rattle.bidi_base.proofs.PlacesLemmas.{length-in_context}
use Rattle.bidi_laws.proofs.StoredSteps.{length-stored_classes}
use Rattle.bidi_laws.proofs.SequencePlaces.{times_in, places_of, sequences-kept, sequences-all, sequence-kept, sequence-not_empty}
use Rattle.bidi_laws.proofs.StoredLemmas.{IsExplicitIn, explicit_levels-IsExplicitIn, length-at_indexes, at_indexes-agree, times_in-at, is_kept_at-stored_classes}
use Rattle.bidi_laws.proofs.PairChanges.{length-n0_pair}

-- ---- lengths

pub length-weak_classes : (sos : BidiClass) (classes : List BidiClass) → length (weak_classes sos classes) ≡ length classes
unfolding weak_classes
length-weak_classes sos classes = grind (arith, length-in_context, length-map)

pub length-n0 : (e sos : BidiClass) (source_classes : List BidiClass) (pairs : List (ℕ × ℕ)) (classes : List BidiClass) → length (n0 e sos source_classes pairs classes) ≡ length classes
unfolding n0
length-n0 e sos source_classes [] classes = refl
length-n0 e sos source_classes (pair ∷ pairs) classes = length-n0 e sos source_classes pairs (n0_pair e sos source_classes classes pair) ∙ length-n0_pair e sos source_classes classes pair

pub length-resolved_levels : (source_classes : List BidiClass) (brackets : List (Option BidiMatchedOpeningBracket)) (levels : List ℕ) (classes : List BidiClass) (s : RunSequence)
    → length (resolved_levels source_classes brackets levels classes s) ≡ length s.places
unfolding resolved_levels neutral_classes
length-resolved_levels source_classes brackets levels classes s =
    grind (arith, length-map, length-in_context, length-n0, length-weak_classes, length-at_indexes)

length-filled_levels : (table : List (ℕ × ℕ)) (p before : ℕ) (classes : List BidiClass) → length (filled_levels table p before classes) ≡ length classes
unfolding filled_levels
length-filled_levels table p before [] = refl
length-filled_levels table p before (c ∷ classes) = ap suc (length-filled_levels table (p + 1) (cond (is_removed c) before (level_in table p)) classes)

pub length-levels_in : (para_level : ℕ) (source_classes : List BidiClass) (brackets : List (Option BidiMatchedOpeningBracket)) → length (levels_in para_level source_classes brackets) ≡ length source_classes
unfolding levels_in
length-levels_in para_level source_classes brackets = grind (arith, length-filled_levels, length-stored_classes)

-- ---- bounds

-- a stored level of a paragraph of this level
pub record IsStoredIn (para_level level : ℕ) : Type 0 where
  pub above : para_level ≤ level
  pub below : level ≤ 126

AllByRecursion-append : {X : Type 0} (P : X → Type 0) (xs ys : List X) → AllByRecursion P xs → AllByRecursion P ys → AllByRecursion P (xs ++ ys)
AllByRecursion-append P [] ys h k = k
AllByRecursion-append P (x ∷ xs) ys h k = (h.0, AllByRecursion-append P xs ys h.1 k)

AllByRecursion-flat_map : {X Y : Type 0} (P : Y → Type 0) (f : X → List Y) (xs : List X) → ((k : ℕ) (d : X) → k < length xs → AllByRecursion P (f (get_or xs k d))) → AllByRecursion P (flat_map f xs)
AllByRecursion-flat_map P f [] each = tt
AllByRecursion-flat_map {X} P f (x ∷ xs) each = AllByRecursion-append P (f x) (flat_map f xs) (each 0 x (omega arith)) (AllByRecursion-flat_map P f xs (λ k d h. each (suc k) d (omega arith)))

AllByRecursion-zip : (P : ℕ → Type 0) (ps vs : List ℕ) → AllByRecursion P vs → AllByRecursion (λ (e : ℕ × ℕ). P e.1) (zip ps vs)
AllByRecursion-zip P [] vs h = tt
AllByRecursion-zip P (p ∷ ps) vs h = grind (arith, AllByRecursion-zip P ps)

times_in-zip : (p : ℕ) (ps vs : List ℕ) → length vs ≡ length ps → count_by (λ (e : ℕ × ℕ). eqb e.0 p) (zip ps vs) ≡ times_in ps p
times_in-zip p [] vs long = refl
times_in-zip p (q ∷ ps) [] long = absurd (omega arith)
times_in-zip p (q ∷ ps) (v ∷ vs) long = search (rules, times_in-zip p ps vs, sum_by-cons)

-- what a table says of a place that has an entry is so, if all its levels are
level_in-AllByRecursion : (P : ℕ → Type 0) (table : List (ℕ × ℕ)) (p : ℕ) → AllByRecursion (λ (e : ℕ × ℕ). P e.1) table → 0 < count_by (λ (e : ℕ × ℕ). eqb e.0 p) table → P (level_in table p)
level_in-AllByRecursion P [] p h there = absurd (omega arith)
level_in-AllByRecursion P (e ∷ table) p h there = grind (arith, sum_by-cons, level_in-AllByRecursion P table p h.1)

AllByRecursion-filled_levels : (P : ℕ → Type 0) (table : List (ℕ × ℕ)) (p before : ℕ) (classes : List BidiClass) → P before
    → ((k : ℕ) → k < length classes → is_kept_at classes k ≡ true → P (level_in table (p + k)))
    → AllByRecursion P (filled_levels table p before classes)
unfolding filled_levels
AllByRecursion-filled_levels P table p before [] h kept = tt
AllByRecursion-filled_levels P table p before (c ∷ classes) h kept =
    let here : P (cond (is_removed c) before (level_in table p)) = grind (
      arith,
      kept 0,
      ap (level_in table) (let none : p + 0 ≡ p = omega arith in none),
    ) in (
      here,
      AllByRecursion-filled_levels P table (p + 1) _ classes here (λ k within stays. grind (
        arith,
        kept (suc k),
        ap (level_in table) (let next : p + suc k ≡ p + 1 + k = omega arith in next),
      )),
    )

first_in : (ps : List ℕ) → 0 < length ps → 0 < times_in ps (first_or 0 ps)
first_in [] some = absurd (omega arith)
first_in (p ∷ ps) some = times_in-at (p ∷ ps) 0 0 (omega arith)

AllByRecursion-implicit_levels : (para_level level : ℕ) (classes : List BidiClass) → IsExplicitIn para_level level → AllByRecursion (IsStoredIn para_level) (implicit_levels level classes)
AllByRecursion-implicit_levels para_level level [] h = tt
AllByRecursion-implicit_levels para_level level (c ∷ classes) h =
    grind (arith, AllByRecursion-implicit_levels para_level level classes)

-- the level of the k-th sequence
pub sequence-level : (para_level : ℕ) (classes : List BidiClass) (k : ℕ) (d : RunSequence) → para_level ≤ 125 → k < length (sequences para_level classes (explicit_levels para_level classes))
    → IsExplicitIn para_level (level_at (explicit_levels para_level classes) (first_or 0 (get_or (sequences para_level classes (explicit_levels para_level classes)) k d).places))
sequence-level para_level classes k d fits within =
    explicit_levels-IsExplicitIn para_level classes _ fits
    (sequence-kept para_level classes _ k d within _ (first_in _ (sequence-not_empty para_level classes _ k d within))).1

-- each stored level is at least the paragraph's, and at most the greatest
pub levels_in-IsStoredIn : (para_level : ℕ) (source_classes : List BidiClass) (brackets : List (Option BidiMatchedOpeningBracket)) → para_level ≤ 125
    → All (IsStoredIn para_level) (levels_in para_level source_classes brackets)
unfolding levels_in sequence_levels resolved_levels
levels_in-IsStoredIn para_level source_classes brackets fits =
    let stored = stored_classes source_classes in
    let levels = explicit_levels para_level stored in
    let seqs = sequences para_level stored levels in
    let table : List (ℕ × ℕ) = flat_map (sequence_levels source_classes brackets levels (explicit_classes para_level stored)) seqs in
    let all : AllByRecursion (λ (e : ℕ × ℕ). IsStoredIn para_level e.1) table =
    AllByRecursion-flat_map (λ (e : ℕ × ℕ). IsStoredIn para_level e.1)
    (sequence_levels source_classes brackets levels (explicit_classes para_level stored)) seqs
    (λ k d within. AllByRecursion-zip (IsStoredIn para_level) (get_or seqs k d).places _
    (AllByRecursion-implicit_levels para_level _ _ (sequence-level para_level stored k d fits within))) in
    All-from_recursion (IsStoredIn para_level) (filled_levels table 0 para_level stored)
    (AllByRecursion-filled_levels (IsStoredIn para_level) table 0 para_level stored (grind arith)
    (λ k within kept. grind (
      arith,
      level_in-AllByRecursion (IsStoredIn para_level) table k all,
      counted seqs k,
      sequences-all para_level stored levels k kept within,
    )))
  where
    counted : (seqs : List RunSequence) (p : ℕ)
        → count_by (λ (e : ℕ × ℕ). eqb e.0 p) (flat_map (sequence_levels source_classes brackets (explicit_levels para_level (stored_classes source_classes)) (explicit_classes para_level (stored_classes source_classes))) seqs) ≡ times_in (places_of seqs) p
    counted [] p = refl
    counted (s ∷ seqs) p =
        let stored = stored_classes source_classes in
        let long = length-resolved_levels source_classes brackets (explicit_levels para_level stored) (explicit_classes para_level stored) s in
        simp (sum_by-append, times_in-zip p s.places (resolved_levels source_classes brackets (explicit_levels para_level stored) (explicit_classes para_level stored) s) long, counted seqs p)

-- ---- brackets of what X9 removes do not count

sequence_levels-agree : (source_classes : List BidiClass) (brackets other : List (Option BidiMatchedOpeningBracket)) (levels : List ℕ) (classes : List BidiClass) (seqs : List RunSequence)
    → ((p : ℕ) → 0 < times_in (places_of seqs) p → get_or brackets p None ≡ get_or other p None)
    → flat_map (sequence_levels source_classes brackets levels classes) seqs ≡ flat_map (sequence_levels source_classes other levels classes) seqs
unfolding sequence_levels resolved_levels
sequence_levels-agree source_classes brackets other levels classes [] agree = refl
sequence_levels-agree source_classes brackets other levels classes (s ∷ seqs) agree =
    grind (arith, sequence_levels-agree source_classes brackets other levels classes seqs, times_in, places_of, sum_by-append, at_indexes-agree)

pub levels_in-agree : (para_level : ℕ) (source_classes : List BidiClass) (brackets other : List (Option BidiMatchedOpeningBracket))
    → ((p : ℕ) → p < length source_classes → is_kept_at source_classes p ≡ true → get_or brackets p None ≡ get_or other p None)
    → levels_in para_level source_classes brackets ≡ levels_in para_level source_classes other
unfolding levels_in
levels_in-agree para_level source_classes brackets other agree =
    let stored = stored_classes source_classes in
    let levels = explicit_levels para_level stored in
    simp (sequence_levels-agree source_classes brackets other levels (explicit_classes para_level stored) (sequences para_level stored levels)
    (λ p there. grind (arith, agree p, sequences-kept para_level stored levels p there, length-stored_classes, is_kept_at-stored_classes)))

other_there : {X : Type 0} (f : ℕ → X) (front back : List ℕ) (c d : ℕ) (p : ℕ) (e : X) → (p ≡ length front → ⊥) → get_or (map f (front ++ c ∷ back)) p e ≡ get_or (map f (front ++ d ∷ back)) p e
other_there f [] back c d p e apart = grind arith
other_there f (x ∷ front) back c d p e apart = grind (arith, other_there f front back c d)

found_there : {X : Type 0} (f : ℕ → X) (front back : List ℕ) (c : ℕ) (e : X) → get_or (map f (front ++ c ∷ back)) (length front) e ≡ f c
found_there f [] back c e = refl
found_there f (x ∷ front) back c e = found_there f front back c e

-- a character of class BN may be another of that class
pub stored_levels-BN : (source : Source) (base_level : Option ℕ) (front back : List ℕ) (c d : ℕ) → source.class_of c ≡ BN
    → source.class_of d ≡ BN → stored_levels source base_level (front ++ c ∷ back) ≡ stored_levels source base_level (front ++ d ∷ back)
unfolding stored_levels
stored_levels-BN source base_level front back c d first second = grind (arith, map-append, levels_in-agree, other_there, found_there)
