-- The classes that a sequence's characters have are among those of all units.
use Rattle.bidi_base.proofs.Common.{◌≡◌, ℕ, Bool, true, not, ◌||◌, List, [], ◌∷◌, length, map, refl, ap, ◌∙◌, inl, inr, filter, list_all, and_from, cases_Bool}
use Rattle.bidi_base.proofs.Common.{cases_lt, cond-true, cond-false, get_or_past, is_kept_in_place, is_weak_resolved, at_indexes, class_at, unit_index}
use Rattle.bidi_base.specs.declared.char_data.BidiClass.{BidiClass}
use Rattle.bidi_base.specs.declared.char_data.BidiClass.TheVariants.{L, BN}
use Rattle.bidi_laws.proofs.ContextLemmas.{list_all-get_or}

abbrev taken : BidiClass → Bool
taken c = is_weak_resolved c || not (is_kept_in_place c)

taken-read : (c : BidiClass) → taken c ≡ true → is_kept_in_place c ≡ true → is_weak_resolved c ≡ true
taken-read BN h r = absurd (cc r)
taken-read _ h r = h

pub all_resolved : (len_of : ℕ → ℕ) (chars : List ℕ) (classes : List BidiClass) (ks : List ℕ) → list_all (λ c. is_weak_resolved c || not (is_kept_in_place c)) classes ≡ true
    → list_all is_weak_resolved (at_indexes L classes (map (unit_index len_of chars) (filter (λ k. is_kept_in_place (class_at classes (unit_index len_of chars k))) ks))) ≡ true
all_resolved len_of chars classes [] all = refl
all_resolved len_of chars classes (k ∷ ks) all =
    let u = unit_index len_of chars k in
    let reads : ℕ → Bool = λ j. is_kept_in_place (class_at classes (unit_index len_of chars j)) in
    let rest = filter reads ks in
    let others = all_resolved len_of chars classes ks all in
    elim (cases_Bool (is_kept_in_place (class_at classes u))) [
      | inl yes' ↦
          let here : taken (class_at classes u) ≡ true = elim (cases_lt u (length classes)) [
            | inl fits ↦ list_all-get_or (λ c. is_weak_resolved c || not (is_kept_in_place c)) classes u L fits all
            | inr past ↦ ap taken (get_or_past classes u L past)
          ] in
          ap (λ (js : List ℕ). list_all is_weak_resolved (at_indexes L classes (map (unit_index len_of chars) js))) (cond-true (is_kept_in_place (class_at classes u)) (k ∷ rest) rest yes')
          ∙ and_from (is_weak_resolved (class_at classes u)) (list_all is_weak_resolved (at_indexes L classes (map (unit_index len_of chars) rest))) (taken-read (class_at classes u) here yes') others
      | inr no' ↦ ap (λ (js : List ℕ). list_all is_weak_resolved (at_indexes L classes (map (unit_index len_of chars) js))) (cond-false (is_kept_in_place (class_at classes u)) (k ∷ rest) rest no') ∙ others
    ]
