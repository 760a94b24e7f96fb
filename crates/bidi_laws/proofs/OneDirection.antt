-- A list in which each class is a neutral or one direction, which stands at its ends too: N0 to N2 give that direction
-- to all.
use Rattle.bidi_base.proofs.Common.{◌≡◌, ℕ, Bool, true, false, cond, if◌then◌else◌, List, [], ◌∷◌, length, take, reverse, filter_map, find, Option, Some, None}
use Rattle.bidi_base.proofs.Common.{option_map, refl, ap, ◌∙◌, arith, ◌⊎◌, inl, inr, sym, and_parts, list_all, list_any, bracket_pairs, as_direction, is_l_or_r}
use Rattle.bidi_base.proofs.Common.{is_ni, same_class, direction_of, nearest_direction, pair_direction, n0, n1_rule, neutral_classes}
use Rattle.bidi_base.specs.declared.char_data.BidiClass.{BidiClass}
use Rattle.bidi_base.specs.declared.char_data.BidiClass.TheVariants.{L, R}
use Rattle.bidi_base.specs.declared.data_source.BidiMatchedOpeningBracket.{BidiMatchedOpeningBracket}
use Rattle.bidi_laws.proofs.ContextLemmas.{list_all-in_context}
use Rattle.bidi_base.proofs.Lists.{list_all-take, list_all-drop}
use Rattle.bidi_laws.proofs.NeutralLemmas.{n0-keeps}

-- a class that is this direction, or a neutral
abbrev pub goes_with : BidiClass → BidiClass → Bool
goes_with L L = true
goes_with R R = true
goes_with _ c = is_ni c

pub itself : (e : BidiClass) → is_l_or_r e ≡ true → same_class e e ≡ true
itself L s = refl
itself R s = refl
itself _ s = absurd (cc s)

neutral_only : (c : BidiClass) → is_ni c ≡ true → (as_direction c ≡ None) × (is_ni c ≡ true)
neutral_only c h = (grind arith, h)

-- a class of this direction is the direction
only : (e c : BidiClass) → is_l_or_r e ≡ true → same_class e c ≡ true → c ≡ e
only L c s h = grind arith
only R c s h = grind arith
only _ c s h = absurd (cc s)

-- what goes with a direction is that direction, or a neutral
goes_with-cases : (e c : BidiClass) → is_l_or_r e ≡ true → goes_with e c ≡ true → ((c ≡ e) × (as_direction c ≡ Some e) × (is_ni c ≡ false)) ⊎ ((as_direction c ≡ None) × (is_ni c ≡ true))
goes_with-cases L L s h = inl (refl, refl, refl)
goes_with-cases L c s h = inr (neutral_only c h)
goes_with-cases R R s h = inl (refl, refl, refl)
goes_with-cases R c s h = inr (neutral_only c h)
goes_with-cases _ c s h = absurd (cc s)

pub either_way : {X : Type 0} (b : Bool) (x : X) → (if b then x else x) ≡ x
either_way true x = refl
either_way false x = refl

module _ (e : BidiClass) (side : is_l_or_r e ≡ true) where
  nearest-is : (cs : List BidiClass) → list_all (goes_with e) cs ≡ true → nearest_direction e cs ≡ e
  nearest-is [] h = refl
  nearest-is (c ∷ cs) h = elim (goes_with-cases e c side (and_parts _ _ h).0) [
    | inl here ↦ simp here.1
    | inr none ↦ simp none.0 (nearest-is cs (and_parts _ _ h).1)
  ]

  directions-are : (cs : List BidiClass) → list_all (goes_with e) cs ≡ true → list_all (same_class e) (filter_map as_direction cs) ≡ true
  directions-are [] h = refl
  directions-are (c ∷ cs) h = elim (goes_with-cases e c side (and_parts _ _ h).0) [
    | inl here ↦ simp (here.1, itself e side) (directions-are cs (and_parts _ _ h).1)
    | inr none ↦ simp none.0 (directions-are cs (and_parts _ _ h).1)
  ]

  -- a pair takes this direction or nothing
  pair_direction-is : (classes : List BidiClass) (pair : ℕ × ℕ) (d : BidiClass) → list_all (goes_with e) classes ≡ true → pair_direction e e classes pair ≡ Some d → d ≡ e
  unfolding pair_direction
  pair_direction-is classes pair d h is = grind (arith, by_inside, directions-are, list_all-take, list_all-drop)
    where
      context : BidiClass
      context = nearest_direction e (reverse (take pair.0 classes))

      by_inside : (ds : List BidiClass) → list_all (same_class e) ds ≡ true
          → cond (list_any (same_class e) ds) (Some e) (option_map (λ (_ : BidiClass). context) (find (λ _. true) ds)) ≡ Some d → d ≡ e
      by_inside [] k f = absurd (cc f)
      by_inside (x ∷ ds) k f =
          let g : cond (list_any (same_class e) (x ∷ ds)) (Some e) (option_map (λ (_ : BidiClass). context) (find (λ _. true) (x ∷ ds))) ≡ Some e = simp (and_parts (same_class e x) (list_all (same_class e) ds) k).0 in
          cc (f, g)

  -- what a neutral takes
  n1_rule-is : (before : List BidiClass) (c : BidiClass) (after : List BidiClass) → list_all (goes_with e) before ≡ true → goes_with e c ≡ true → same_class e (n1_rule e e e before c after) ≡ true
  n1_rule-is before c after h k = elim (goes_with-cases e c side k) [
    | inl here ↦ simp here.2 (simp here.0 (itself e side))
    | inr none ↦ simp (none.1, nearest-is before h, either_way (same_class e (nearest_direction e after)) e) (itself e side)
  ]

  pub neutral_classes-one : (level : ℕ) (source_classes : List BidiClass) (brackets : List (Option BidiMatchedOpeningBracket)) (classes : List BidiClass)
      → e ≡ direction_of level → list_all (goes_with e) classes ≡ true
      → list_all (same_class e) (neutral_classes level e e source_classes brackets classes) ≡ true
  unfolding neutral_classes
  neutral_classes-one level source_classes brackets classes is h =
      rw (← is) (list_all-in_context (n1_rule e e e) (goes_with e) (same_class e) n1_rule-is [] (n0 e e source_classes (bracket_pairs classes brackets) classes) refl
      (n0-keeps (goes_with e) e e source_classes (λ cs pair d all is. ap (goes_with e) (pair_direction-is cs pair d all is) ∙ grind arith) (bracket_pairs classes brackets) classes h))

  -- lists of this class alone
  pub same_lists : (xs ys : List BidiClass) → list_all (same_class e) xs ≡ true → list_all (same_class e) ys ≡ true → length xs ≡ length ys → xs ≡ ys
  same_lists [] [] h k l = refl
  same_lists (x ∷ xs) (y ∷ ys) h k l =
      let first : x ≡ y = only e x side (and_parts (same_class e x) (list_all (same_class e) xs) h).0 ∙ sym (only e y side (and_parts (same_class e y) (list_all (same_class e) ys) k).0) in
      simp (first, same_lists xs ys (and_parts (same_class e x) (list_all (same_class e) xs) h).1 (and_parts (same_class e y) (list_all (same_class e) ys) k).1 (omega (arith, l)))
  same_lists _ _ h k l = absurd (omega (arith, l))
