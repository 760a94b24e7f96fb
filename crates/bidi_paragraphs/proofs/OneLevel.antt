-- A list of classes to which W1 to N2 give one direction: its levels can be read off before W1.
use Rattle.bidi_base.proofs.Common.{◌≡◌, ℕ, Bool, true, false, not, cond, if◌then◌else◌, List, [], ◌∷◌, ◌⊎◌, inl, inr, length, take, reverse, filter_map, find, Option, Some, None, option_map}
use Rattle.bidi_base.proofs.Common.{refl, sym, ap, ◌∙◌, arith, cases_Bool, and_parts, and_from, or_cases, list_all, list_any, in_context, as_direction, is_en, is_et, is_kept, is_l_or_r}
use Rattle.bidi_base.proofs.Common.{is_ni, is_nsm, is_weak_resolved, same_class, carried, nearest, nearest_is, w1, w2, w3, w4, w5, w6, w1_rule, w2_rule, w3_rule, w4_rule, w5_rule, w6_rule}
use Rattle.bidi_base.proofs.Common.{w7_rule, weak_classes, direction_of, nearest_direction, pair_direction, n0, n1_rule, neutral_classes, implicit_level, implicit_levels, bracket_pairs}
use Rattle.bidi_base.specs.declared.char_data.BidiClass.{BidiClass}
use Rattle.bidi_base.specs.declared.char_data.BidiClass.TheVariants.{L, EN, ES, ET, AN, CS, NSM, R}
use Rattle.bidi_base.specs.declared.data_source.BidiMatchedOpeningBracket.{BidiMatchedOpeningBracket}
use Rattle.bidi_base.proofs.Lists.{list_all-take, list_all-drop}
use Rattle.bidi_base.proofs.PlacesLemmas.{length-in_context}
use Rattle.bidi_laws.proofs.ContextLemmas.{list_all-in_context, list_all-mapped}
use Rattle.bidi_laws.proofs.NeutralLemmas.{n0-keeps}
use Rattle.bidi_laws.proofs.OneDirection.{goes_with, itself, either_way}
use Rattle.bidi_laws.proofs.ResolvedLemmas.{length-n0, length-weak_classes}
use Rattle.bidi_laws.proofs.WeakLemmas.{weak_classes-resolved}
use Rattle.bidi_paragraphs.specs.KnownLevels.{raises}
use Rattle.bidi_laws.proofs.KeepsToLemmas.{list_all-around}

same-is : (a b : BidiClass) → is_l_or_r b ≡ true → same_class a b ≡ true → a ≡ b
same-is a L s h = grind arith
same-is a R s h = grind arith
same-is a b s h = absurd (cc s)

-- what all classes are, the nearest one is
pub nearest-passes : (p test : BidiClass → Bool) (xs : List BidiClass) (d : BidiClass) → list_all p xs ≡ true → p d ≡ true → p (nearest test xs d) ≡ true
nearest-passes p test [] d h k = k
nearest-passes p test (x ∷ xs) d h k = grind (arith, cases_Bool (test x), and_parts, nearest-passes p test xs d)

-- the first class is no mark
abbrev pub begins_unmarked : List BidiClass → Bool
begins_unmarked [] = true
begins_unmarked (c ∷ cs) = not (is_nsm c)

module _ (e : BidiClass) (side : is_l_or_r e ≡ true) where
  -- a class of a character whose level is not raised
  abbrev pub stays : BidiClass → Bool
  stays c = not (raises e c)

  stays-itself : stays e ≡ true
  unfolding raises
  stays-itself = grind arith

  -- ---- W1 to W7

  carried-stays : (c : BidiClass) → stays c ≡ true → stays (carried c) ≡ true
  unfolding raises
  carried-stays c h = grind arith

  stays-w1 : (sos : BidiClass) → stays sos ≡ true → (before : List BidiClass) (c : BidiClass) (after : List BidiClass)
      → list_all stays before ≡ true → stays c ≡ true → stays (w1_rule sos before c after) ≡ true
  stays-w1 sos s before NSM after h k = carried-stays (nearest (λ c. not (is_nsm c)) before sos) (nearest-passes stays (λ c. not (is_nsm c)) before sos h s)
  stays-w1 sos s before c after h k = k

  -- after a class that is no mark, none takes sos
  nearest-found : (xs : List BidiClass) (d : BidiClass) → list_all stays xs ≡ true → list_any (λ c. not (is_nsm c)) xs ≡ true → stays (nearest (λ c. not (is_nsm c)) xs d) ≡ true
  nearest-found [] d h k = absurd (cc k)
  nearest-found (x ∷ xs) d h k = grind (arith, cases_Bool (is_nsm x), and_parts, nearest-found xs d)

  behind-w1 : (sos : BidiClass) (before : List BidiClass) (c : BidiClass) (after : List BidiClass)
      → list_all stays before ≡ true → list_any (λ c. not (is_nsm c)) before ≡ true → stays c ≡ true → stays (w1_rule sos before c after) ≡ true
  behind-w1 sos before NSM after h some k = carried-stays (nearest (λ c. not (is_nsm c)) before sos) (nearest-found before sos h some)
  behind-w1 sos before c after h some k = k

  all-behind : (sos : BidiClass) (before xs : List BidiClass) → list_all stays before ≡ true → list_any (λ c. not (is_nsm c)) before ≡ true → list_all stays xs ≡ true
      → list_all stays (in_context (w1_rule sos) before xs) ≡ true
  all-behind sos before [] h some k = refl
  all-behind sos before (x ∷ xs) h some k =
      grind (arith, and_parts, and_from, or_cases, behind-w1 sos before x xs h some, all-behind sos (x ∷ before) xs)

  unmarked-w1 : (sos : BidiClass) (classes : List BidiClass) → begins_unmarked classes ≡ true → list_all stays classes ≡ true → list_all stays (w1 sos classes) ≡ true
  unmarked-w1 sos [] first all = refl
  unmarked-w1 sos (NSM ∷ cs) first all = absurd (cc first)
  unmarked-w1 sos (c ∷ cs) first all =
      let none : is_nsm c ≡ false = grind arith in
      grind (arith, none, and_parts, and_from, all-behind sos (c ∷ []) cs)

  stays-w2 : (sos : BidiClass) (before : List BidiClass) (c : BidiClass) (after : List BidiClass) → list_all stays before ≡ true → stays c ≡ true → stays (w2_rule sos before c after) ≡ true
  unfolding raises
  stays-w2 sos before EN after h k = absurd (cc k)
  stays-w2 sos before c after h k = k

  stays-w3 : (c : BidiClass) → stays c ≡ true → stays (w3_rule c) ≡ true
  unfolding raises
  stays-w3 c h = grind arith

  stays-w4 : (before : List BidiClass) (c : BidiClass) (after : List BidiClass) → list_all stays before ≡ true → stays c ≡ true → stays (w4_rule before c after) ≡ true
  unfolding raises
  stays-w4 (EN ∷ before) ES (EN ∷ after) h k = absurd (cc h)
  stays-w4 (EN ∷ before) CS (EN ∷ after) h k = absurd (cc h)
  stays-w4 (AN ∷ before) CS (AN ∷ after) h k = absurd (cc h)
  stays-w4 before c after h k = k

  no_number : (xs : List BidiClass) → list_all stays xs ≡ true → nearest_is (λ c. not (is_et c)) is_en xs ≡ false
  unfolding raises
  no_number [] h = refl
  no_number (x ∷ xs) h = grind (arith, cases_Bool (is_et x), and_parts, no_number xs)

  stays-w5 : (before : List BidiClass) (c : BidiClass) (after : List BidiClass) → list_all stays before ≡ true → stays c ≡ true → list_all stays after ≡ true → stays (w5_rule before c after) ≡ true
  stays-w5 before ET after h k l = simp (no_number before h, no_number after l) k
  stays-w5 before c after h k l = k

  stays-w6 : (c : BidiClass) → stays c ≡ true → stays (w6_rule c) ≡ true
  unfolding raises
  stays-w6 c h = grind arith

  stays-w7 : (sos : BidiClass) (before : List BidiClass) (c : BidiClass) (after : List BidiClass) → list_all stays before ≡ true → stays c ≡ true → stays (w7_rule sos before c after) ≡ true
  unfolding raises
  stays-w7 sos before EN after h k = absurd (cc k)
  stays-w7 sos before c after h k = k

  -- what W2 to W7 make of it after W1
  stays-weak : (sos : BidiClass) (classes : List BidiClass) → list_all stays (w1 sos classes) ≡ true → list_all stays (weak_classes sos classes) ≡ true
  unfolding weak_classes
  stays-weak sos classes after_w1 =
      let after_w2 = list_all-in_context (w2_rule sos) stays stays (stays-w2 sos) [] (w1 sos classes) refl after_w1 in
      let after_w3 = list_all-mapped w3_rule stays stays stays-w3 (w2 sos (w1 sos classes)) after_w2 in
      let after_w4 = list_all-in_context w4_rule stays stays stays-w4 [] (w3 (w2 sos (w1 sos classes))) refl after_w3 in
      let after_w5 = list_all-around w5_rule stays stays stays-w5 [] (w4 (w3 (w2 sos (w1 sos classes)))) refl after_w4 in
      let after_w6 = list_all-mapped w6_rule stays stays stays-w6 (w5 (w4 (w3 (w2 sos (w1 sos classes))))) after_w5 in
      list_all-in_context (w7_rule sos) stays stays (stays-w7 sos) [] (w6 (w5 (w4 (w3 (w2 sos (w1 sos classes)))))) refl after_w6

  goes : (c : BidiClass) → is_weak_resolved c ≡ true → stays c ≡ true → goes_with e c ≡ true
  unfolding raises
  goes c h k = grind arith

  pub all_go : (cs : List BidiClass) → list_all is_weak_resolved cs ≡ true → list_all stays cs ≡ true → list_all (goes_with e) cs ≡ true
  all_go [] h k = refl
  all_go (c ∷ cs) h k = grind (arith, and_parts, and_from, goes c, all_go cs)

  -- ---- N0 to N2

  none_or_this : (c : BidiClass) → goes_with e c ≡ true → ((c ≡ e) × (as_direction c ≡ Some e) × (is_ni c ≡ false)) ⊎ ((as_direction c ≡ None) × (is_ni c ≡ true))
  none_or_this c h = by e c side h
    where
      neutral_only : (c : BidiClass) → is_ni c ≡ true → (as_direction c ≡ None) × (is_ni c ≡ true)
      neutral_only c h = (grind arith, h)

      by : (e c : BidiClass) → is_l_or_r e ≡ true → goes_with e c ≡ true → ((c ≡ e) × (as_direction c ≡ Some e) × (is_ni c ≡ false)) ⊎ ((as_direction c ≡ None) × (is_ni c ≡ true))
      by L L s h = inl (refl, refl, refl)
      by L c s h = inr (neutral_only c h)
      by R R s h = inl (refl, refl, refl)
      by R c s h = inr (neutral_only c h)
      by _ c s h = absurd (cc s)

  nearest-goes : (d : BidiClass) (cs : List BidiClass) → list_all (goes_with e) cs ≡ true → (nearest_direction d cs ≡ e) ⊎ (nearest_direction d cs ≡ d)
  nearest-goes d [] h = inr refl
  nearest-goes d (c ∷ cs) h = elim (none_or_this c (and_parts _ _ h).0) [
    | inl here ↦ inl (simp here.1)
    | inr none ↦ simp none.0 (nearest-goes d cs (and_parts _ _ h).1)
  ]

  directions-are : (cs : List BidiClass) → list_all (goes_with e) cs ≡ true → list_all (same_class e) (filter_map as_direction cs) ≡ true
  directions-are [] h = refl
  directions-are (c ∷ cs) h = elim (none_or_this c (and_parts _ _ h).0) [
    | inl here ↦ simp (here.1, itself e side) (directions-are cs (and_parts _ _ h).1)
    | inr none ↦ simp none.0 (directions-are cs (and_parts _ _ h).1)
  ]

  -- a pair takes this direction or nothing
  pair_direction-is : (sos : BidiClass) (classes : List BidiClass) (pair : ℕ × ℕ) (d : BidiClass) → list_all (goes_with e) classes ≡ true → pair_direction e sos classes pair ≡ Some d → d ≡ e
  unfolding pair_direction
  pair_direction-is sos classes pair d h is = grind (arith, by_inside, directions-are, list_all-take, list_all-drop)
    where
      context : BidiClass
      context = nearest_direction sos (reverse (take pair.0 classes))

      by_inside : (ds : List BidiClass) → list_all (same_class e) ds ≡ true
          → cond (list_any (same_class e) ds) (Some e) (option_map (λ (_ : BidiClass). context) (find (λ _. true) ds)) ≡ Some d → d ≡ e
      by_inside [] k f = absurd (cc f)
      by_inside (x ∷ ds) k f =
          let g : cond (list_any (same_class e) (x ∷ ds)) (Some e) (option_map (λ (_ : BidiClass). context) (find (λ _. true) (x ∷ ds))) ≡ Some e = simp (and_parts (same_class e x) (list_all (same_class e) ds) k).0 in
          cc (f, g)

  module _ (sos eos : BidiClass) (one : (sos ≡ e) ⊎ (eos ≡ e)) where
    -- what a neutral takes
    common-is : (before after : List BidiClass) → list_all (goes_with e) before ≡ true → list_all (goes_with e) after ≡ true
        → (if same_class (nearest_direction sos before) (nearest_direction eos after) then nearest_direction sos before else e) ≡ e
    common-is before after h k = elim one [
      | inl is ↦
          let left : nearest_direction sos before ≡ e = elim (nearest-goes sos before h) [ inl there ↦ there | inr there ↦ there ∙ is ] in
          simp left (either_way (same_class e (nearest_direction eos after)) e)
      | inr is ↦
          let right : nearest_direction eos after ≡ e = elim (nearest-goes eos after k) [ inl there ↦ there | inr there ↦ there ∙ is ] in
          elim (cases_Bool (same_class (nearest_direction sos before) e)) [
            | inl same ↦ simp (right, same) (same-is (nearest_direction sos before) e side same)
            | inr other ↦ simp (right, other)
          ]
    ]

    n1_rule-is : (before : List BidiClass) (c : BidiClass) (after : List BidiClass) → list_all (goes_with e) before ≡ true → goes_with e c ≡ true → list_all (goes_with e) after ≡ true
        → same_class e (n1_rule e sos eos before c after) ≡ true
    n1_rule-is before c after h k l = elim (none_or_this c k) [
      | inl here ↦ simp here.2 (simp here.0 (itself e side))
      | inr none ↦ simp none.1 (simp (common-is before after h l) (itself e side))
    ]

    pub neutral_classes-is : (level : ℕ) (source_classes : List BidiClass) (brackets : List (Option BidiMatchedOpeningBracket)) (classes : List BidiClass)
        → e ≡ direction_of level → list_all (goes_with e) classes ≡ true → list_all (same_class e) (neutral_classes level sos eos source_classes brackets classes) ≡ true
    unfolding neutral_classes
    neutral_classes-is level source_classes brackets classes is h =
        rw (← is) (list_all-around (n1_rule e sos eos) (goes_with e) (same_class e) n1_rule-is [] (n0 e sos source_classes (bracket_pairs classes brackets) classes) refl
        (n0-keeps (goes_with e) e sos source_classes (λ cs pair d all is. ap (goes_with e) (pair_direction-is sos cs pair d all is) ∙ grind arith) (bracket_pairs classes brackets) classes h))

-- ---- I1 and I2

-- I1 and I2 give some new classes the levels of the old ones after N2
abbrev pub GiveLevels : ℕ → BidiClass → BidiClass → List BidiClass → List (Option BidiMatchedOpeningBracket) → List BidiClass → List BidiClass → Type 0
GiveLevels level sos eos source_classes brackets old new =
    implicit_levels level new ≡ implicit_levels level (neutral_classes level sos eos source_classes brackets (weak_classes sos old))

-- the levels of some classes are those after N2
abbrev pub KeepLevels : ℕ → BidiClass → BidiClass → List BidiClass → List (Option BidiMatchedOpeningBracket) → List BidiClass → Type 0
KeepLevels level sos eos source_classes brackets classes = GiveLevels level sos eos source_classes brackets classes classes

not_raised : (level : ℕ) (c : BidiClass) → not (raises (direction_of level) c) ≡ true → implicit_level level c ≡ level
unfolding raises
not_raised level c h = grind arith

same-raised : (level : ℕ) (c : BidiClass) → same_class (direction_of level) c ≡ true → implicit_level level c ≡ level
same-raised level c h = grind arith

-- two lists without a class that is raised
pub same_levels : (level : ℕ) (xs ys : List BidiClass) → list_all (λ c. not (raises (direction_of level) c)) xs ≡ true → list_all (same_class (direction_of level)) ys ≡ true
    → length xs ≡ length ys → implicit_levels level xs ≡ implicit_levels level ys
same_levels level [] [] h k long = refl
same_levels level (x ∷ xs) (y ∷ ys) h k long =
    grind (arith, and_parts, not_raised level x, same-raised level y, same_levels level xs ys)
same_levels level _ _ h k long = absurd (omega (arith, long))

pub length-neutral_classes : (level : ℕ) (sos eos : BidiClass) (source_classes : List BidiClass) (brackets : List (Option BidiMatchedOpeningBracket)) (classes : List BidiClass)
    → length (neutral_classes level sos eos source_classes brackets classes) ≡ length classes
unfolding neutral_classes
length-neutral_classes level sos eos source_classes brackets classes = grind (arith, length-in_context, length-n0)

pub KeepLevels-one : (level : ℕ) (sos eos : BidiClass) (source_classes : List BidiClass) (brackets : List (Option BidiMatchedOpeningBracket)) (classes : List BidiClass)
    → is_l_or_r sos ≡ true → (sos ≡ direction_of level) ⊎ ((eos ≡ direction_of level) × (begins_unmarked classes ≡ true))
    → list_all is_kept classes ≡ true → list_all (λ c. not (raises (direction_of level) c)) classes ≡ true → KeepLevels level sos eos source_classes brackets classes
KeepLevels-one level sos eos source_classes brackets classes begins sides kept all =
    same_levels level classes (neutral_classes level sos eos source_classes brackets (weak_classes sos classes)) all
    (neutral_classes-is e side sos eos one level source_classes brackets (weak_classes sos classes) refl
    (all_go e side (weak_classes sos classes) (weak_classes-resolved sos classes begins kept) (stays-weak e side sos classes after_w1)))
    (sym (length-neutral_classes level sos eos source_classes brackets (weak_classes sos classes) ∙ length-weak_classes sos classes))
  where
    e : BidiClass
    e = direction_of level

    side : is_l_or_r e ≡ true
    side = grind arith

    one : (sos ≡ e) ⊎ (eos ≡ e)
    one = elim sides [ inl is ↦ inl is | inr is ↦ inr is.0 ]

    after_w1 : list_all (stays e side) (w1 sos classes) ≡ true
    after_w1 = elim sides [
      | inl is ↦ list_all-in_context (w1_rule sos) (stays e side) (stays e side) (stays-w1 e side sos (ap (stays e side) is ∙ stays-itself e side)) [] classes refl all
      | inr is ↦ unmarked-w1 e side sos classes is.1 all
    ]
