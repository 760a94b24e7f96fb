-- What the rules of a sequence are given: the classes and levels of a paragraph at the places of its sequences.
use Rattle.bidi_base.proofs.Common.{◌≡◌, ℕ, zero, suc, ◌<◌, ◌≤◌, Bool, true, cond, eqb, List, [], ◌∷◌, ◌++◌, length, get_or, unwrap_or, refl, ap, arith, leb, common_steps}
use Rattle.bidi_base.proofs.Common.{list_all, cond_both, and_from, sum_by-cons, get_or-map-range_with_len, is_kept, class_at, at_indexes, stored_class, stored_classes, Status}
use Rattle.bidi_base.proofs.Common.{override_of, next_level, status_inside, status_at, explicit_class, explicit_levels, explicit_classes, is_kept_at, level_at}
use Rattle.bidi_base.specs.declared.char_data.BidiClass.{BidiClass}
use Rattle.bidi_laws.proofs.ExplicitLemmas.{explicit_level-IsWithin, level_at-explicit_levels, class_at-explicit_classes}
use Rattle.bidi_laws.proofs.SequencePlaces.{times_in}

-- ---- stored classes: an FSI is kept, whatever it becomes

pub class_at-stored_classes : (classes : List BidiClass) (p : ℕ) → p < length classes → class_at (stored_classes classes) p ≡ stored_class classes p (class_at classes p)
unfolding stored_classes
class_at-stored_classes classes p within = grind (arith, get_or-map-range_with_len)

-- X9 keeps the same characters by their stored classes
pub is_kept_at-stored_classes : (classes : List BidiClass) (p : ℕ) → p < length classes → is_kept_at (stored_classes classes) p ≡ is_kept_at classes p
is_kept_at-stored_classes classes p within = grind (arith, class_at-stored_classes)

-- ---- explicit classes: an override is L or R

status_inside-kept : (status : Status) (openers : List BidiClass) (c : BidiClass) → is_kept c ≡ true
    → is_kept (unwrap_or status.override c) ≡ true → is_kept (unwrap_or (status_inside status openers).override c) ≡ true
unfolding status_inside
status_inside-kept status [] c own h = h
status_inside-kept status (opener ∷ openers) c own h =
    let inner : Status = record { level = next_level opener status.level; override = override_of opener } in
    cond_both (leb (next_level opener status.level) 125) (status_inside inner openers) status (λ (s : Status). is_kept (unwrap_or s.override c) ≡ true)
    (λ e. status_inside-kept inner openers c own (grind arith))
    (λ e. h)

pub explicit_class-kept : (para_level : ℕ) (classes : List BidiClass) (p : ℕ) → is_kept_at classes p ≡ true → is_kept (explicit_class para_level classes p) ≡ true
unfolding explicit_class status_at
explicit_class-kept para_level classes p kept = grind (arith, status_inside-kept)

pub explicit_classes-kept : (para_level : ℕ) (classes : List BidiClass) (p : ℕ) → p < length classes → is_kept_at classes p ≡ true → is_kept_at (explicit_classes para_level classes) p ≡ true
explicit_classes-kept para_level classes p within kept = grind (arith, class_at-explicit_classes, explicit_class-kept)

-- ---- explicit levels

-- a level of a paragraph of this level
pub record IsExplicitIn (para_level level : ℕ) : Type 0 where
  pub above : para_level ≤ level
  pub below : level ≤ 125

pub explicit_levels-IsExplicitIn : (para_level : ℕ) (classes : List BidiClass) (p : ℕ) → para_level ≤ 125 → p < length classes → IsExplicitIn para_level (level_at (explicit_levels para_level classes) p)
explicit_levels-IsExplicitIn para_level classes p fits within = grind (arith, explicit_level-IsWithin, level_at-explicit_levels)

-- ---- the elements at some places

pub length-at_indexes : {X : Type 0} (d : X) (xs : List X) (ps : List ℕ) → length (at_indexes d xs ps) ≡ length ps
length-at_indexes d xs [] = refl
length-at_indexes d xs (p ∷ ps) = ap suc (length-at_indexes d xs ps)

pub at_indexes-append : {X : Type 0} (d : X) (xs : List X) (ps qs : List ℕ) → at_indexes d xs (ps ++ qs) ≡ at_indexes d xs ps ++ at_indexes d xs qs
at_indexes-append d xs [] qs = refl
at_indexes-append {X} d xs (p ∷ ps) qs = ap {B = List X} (λ ys. get_or xs p d ∷ ys) (at_indexes-append d xs ps qs)

-- what is in a list, and is its first or a later one
pub times_in-first : (p : ℕ) (ps : List ℕ) → 0 < times_in (p ∷ ps) p
times_in-first p ps = grind (arith, common_steps)

pub times_in-later : (q : ℕ) (ps : List ℕ) (p : ℕ) → times_in ps p ≤ times_in (q ∷ ps) p
times_in-later q ps p = omega (arith, sum_by-cons (λ q. cond (eqb q p) 1 0) q ps)

-- the lists agree at the places
pub at_indexes-agree : {X : Type 0} (d : X) (xs ys : List X) (ps : List ℕ) → ((p : ℕ) → 0 < times_in ps p → get_or xs p d ≡ get_or ys p d) → at_indexes d xs ps ≡ at_indexes d ys ps
at_indexes-agree d xs ys [] agree = refl
at_indexes-agree {X} d xs ys (p ∷ ps) agree =
    simp (agree p (times_in-first p ps), at_indexes-agree d xs ys ps (λ q there. agree q (omega (arith, times_in-later p ps q))))

-- each element at the places passes the test
pub list_all-at_indexes : {X : Type 0} (test : X → Bool) (d : X) (xs : List X) (ps : List ℕ) → ((p : ℕ) → 0 < times_in ps p → test (get_or xs p d) ≡ true) → list_all test (at_indexes d xs ps) ≡ true
list_all-at_indexes test d xs [] passes = refl
list_all-at_indexes test d xs (p ∷ ps) passes =
    and_from (test (get_or xs p d)) (list_all test (at_indexes d xs ps)) (passes p (times_in-first p ps)) (list_all-at_indexes test d xs ps (λ q there. passes q (omega (arith, times_in-later p ps q))))

-- one more place
pub list_all-at_indexes_back : {X : Type 0} (test : X → Bool) (d : X) (xs : List X) (ps : List ℕ) (p : ℕ) → list_all test (at_indexes d xs ps) ≡ true → 0 < times_in ps p → test (get_or xs p d) ≡ true
list_all-at_indexes_back test d xs [] p h there = absurd (omega arith)
list_all-at_indexes_back test d xs (q ∷ ps) p h there =
    grind (arith, sum_by-cons, list_all-at_indexes_back test d xs ps p)

-- an element that stands in a list stands at one of its indexes
pub times_in-at : (ps : List ℕ) (k d : ℕ) → k < length ps → 0 < times_in ps (get_or ps k d)
times_in-at [] k d within = absurd (omega arith)
times_in-at (p ∷ ps) zero d within = times_in-first p ps
times_in-at (p ∷ ps) (suc k) d within = omega (arith, times_in-later p ps (get_or ps k d), times_in-at ps k d (omega arith))
