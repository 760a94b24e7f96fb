-- A paragraph without a character that may leave its level: all its levels are that one.
use Rattle.bidi_base.proofs.Common.{◌≡◌, ℕ, Bool, true, false, not, ◌&&◌, ◌||◌, cond, List, [], ◌∷◌, length, Option, None, refl, sym, ◌∙◌, arith, list_all, list_any, and_parts, or_parts}
use Rattle.bidi_base.proofs.Common.{cases_Bool, inl, inr, not-true, get_or-replicate, length-replicate, is_opener, is_kept, is_nsm, is_al, is_en, is_et, is_l, is_l_or_r, is_strong}
use Rattle.bidi_base.proofs.Common.{is_weak_resolved, same_class, is_odd, direction_of, at_indexes, nearest, nearest_is, in_context, carried, w1_rule, w2_rule, w3_rule, w4_rule, w5_rule, w6_rule}
use Rattle.bidi_base.proofs.Common.{w7_rule, w1, w2, w3, w4, w5, w6, weak_classes, may_turn, is_pure_ltr, implicit_levels, kept_indexes, levels_in, is_flat, may_leave, run_levels, kept_of}
use Rattle.bidi_base.proofs.Common.{replicate, keeps_to}
use Rattle.bidi_base.specs.declared.char_data.BidiClass.{BidiClass}
use Rattle.bidi_base.specs.declared.char_data.BidiClass.TheVariants.{L, R, AL, EN, ET, NSM}
use Rattle.bidi_base.specs.declared.data_source.BidiMatchedOpeningBracket.{BidiMatchedOpeningBracket}
use Rattle.bidi_base.specs.WithoutOpeners.{turns}
use Rattle.bidi_laws.proofs.NeutralLemmas.{direction_of-l_or_r}
use Rattle.bidi_laws.proofs.OneDirection.{goes_with, neutral_classes-one}
use Rattle.bidi_laws.proofs.ContextLemmas.{list_all-mapped}
use Rattle.bidi_laws.proofs.WeakLemmas.{w4_rule-passes, either_passes}
use Rattle.bidi_laws.proofs.FlatLemmas.{at_indexes-kept, kept_of-replicate, length-run_levels, levels_in-flat_written}

-- ---- W1 to W7, at an odd level or an even one

-- what is in such a sequence, what W1 and W3 leave, and what W6 does
abbrev pub is_inert : Bool → BidiClass → Bool
is_inert odd c = is_kept c && not (is_opener c || turns odd c)

abbrev is_inert_after_w1 : Bool → BidiClass → Bool
is_inert_after_w1 odd c = is_inert odd c && not (is_nsm c)

abbrev is_inert_after_w3 : Bool → BidiClass → Bool
is_inert_after_w3 odd c = is_inert_after_w1 odd c && not (is_al c)

abbrev is_inert_after_w6 : Bool → BidiClass → Bool
is_inert_after_w6 odd c = is_weak_resolved c && not (turns odd c)

-- the direction, and what W7 leaves
abbrev direction : Bool → BidiClass
direction odd = cond odd R L

abbrev is_direction : Bool → BidiClass → Bool
is_direction odd c = same_class (direction odd) c

abbrev is_direction_or_neutral : Bool → BidiClass → Bool
is_direction_or_neutral odd c = goes_with (direction odd) c

nearest_inert : (odd : Bool) (before : List BidiClass) → list_all (is_inert odd) before ≡ true → is_inert_after_w1 odd (nearest (λ c. not (is_nsm c)) before (direction odd)) ≡ true
nearest_inert true [] h = refl
nearest_inert false [] h = refl
nearest_inert odd (b ∷ before) h =
    let parts = and_parts (is_inert odd b) (list_all (is_inert odd) before) h in
    elim (cases_Bool (is_nsm b)) [ inl mark ↦ simp mark (nearest_inert odd before parts.1) | inr other ↦ simp (other, parts.0) ]

carried_inert : (odd : Bool) (c : BidiClass) → is_inert_after_w1 odd c ≡ true → is_inert_after_w1 odd (carried c) ≡ true
carried_inert true c h = grind arith
carried_inert false c h = grind arith

inert_w1 : (odd : Bool) (before : List BidiClass) (c : BidiClass) (after : List BidiClass) → list_all (is_inert odd) before ≡ true
    → is_inert odd c ≡ true → is_inert_after_w1 odd (w1_rule (direction odd) before c after) ≡ true
inert_w1 odd before NSM after h k = carried_inert odd _ (nearest_inert odd before h)
inert_w1 true before c after h k = k
inert_w1 false before c after h k = k

no_al : (c : BidiClass) → is_inert_after_w1 false c ≡ true → is_al c ≡ false
no_al AL h = absurd (cc h)
no_al _ h = refl

nearest_no_al : (before : List BidiClass) → list_all (is_inert_after_w1 false) before ≡ true → is_al (nearest is_strong before L) ≡ false
nearest_no_al [] h = refl
nearest_no_al (b ∷ before) h =
    let parts = and_parts (is_inert_after_w1 false b) (list_all (is_inert_after_w1 false) before) h in
    elim (cases_Bool (is_strong b)) [ inl strong ↦ simp strong (no_al b parts.0) | inr weak ↦ simp weak (nearest_no_al before parts.1) ]

inert_w2 : (odd : Bool) (before : List BidiClass) (c : BidiClass) (after : List BidiClass) → list_all (is_inert_after_w1 odd) before ≡ true
    → is_inert_after_w1 odd c ≡ true → is_inert_after_w1 odd (w2_rule (direction odd) before c after) ≡ true
inert_w2 true before EN after h k = absurd (cc k)
inert_w2 false before EN after h k = simp (nearest_no_al before h)
inert_w2 true before c after h k = k
inert_w2 false before c after h k = k

inert_w3 : (odd : Bool) (c : BidiClass) → is_inert_after_w1 odd c ≡ true → is_inert_after_w3 odd (w3_rule c) ≡ true
inert_w3 true AL h = refl
inert_w3 false AL h = absurd (cc h)
inert_w3 true c h = h
inert_w3 false c h = h

no_en : (c : BidiClass) → is_inert_after_w3 true c ≡ true → is_en c ≡ false
no_en EN h = absurd (cc h)
no_en _ h = refl

nearest_no_en : (near : List BidiClass) → list_all (is_inert_after_w3 true) near ≡ true → nearest_is (λ c. not (is_et c)) is_en near ≡ false
nearest_no_en [] h = refl
nearest_no_en (c ∷ near) h =
    let parts = and_parts (is_inert_after_w3 true c) (list_all (is_inert_after_w3 true) near) h in
    elim (cases_Bool (is_et c)) [ inl terminator ↦ simp terminator (nearest_no_en near parts.1) | inr other ↦ simp other (no_en c parts.0) ]

inert_w5 : (odd : Bool) (before : List BidiClass) (c : BidiClass) (after : List BidiClass) → list_all (is_inert_after_w3 odd) before ≡ true
    → is_inert_after_w3 odd c ≡ true → list_all (is_inert_after_w3 odd) after ≡ true
    → is_inert_after_w3 odd (w5_rule before c after) ≡ true
inert_w5 true before ET after h k m = simp (nearest_no_en before h, nearest_no_en after m)
inert_w5 false before ET after h k m = either_passes (is_inert_after_w3 false) _ EN ET refl refl
inert_w5 true before c after h k m = k
inert_w5 false before c after h k m = k

inert_w6 : (odd : Bool) (c : BidiClass) → is_inert_after_w3 odd c ≡ true → is_inert_after_w6 odd (w6_rule c) ≡ true
inert_w6 true c h = grind arith
inert_w6 false c h = grind arith

only_l : (c : BidiClass) → is_l_or_r c ≡ true → is_inert_after_w6 false c ≡ true → is_l c ≡ true
only_l L side h = refl
only_l R side h = absurd (cc h)
only_l _ side h = absurd (cc side)

nearest_l : (before : List BidiClass) → list_all (is_inert_after_w6 false) before ≡ true → is_l (nearest is_l_or_r before L) ≡ true
nearest_l [] h = refl
nearest_l (b ∷ before) h =
    let parts = and_parts (is_inert_after_w6 false b) (list_all (is_inert_after_w6 false) before) h in
    elim (cases_Bool (is_l_or_r b)) [ inl side ↦ simp side (only_l b side parts.0) | inr other ↦ simp other (nearest_l before parts.1) ]

inert_w7 : (odd : Bool) (before : List BidiClass) (c : BidiClass) (after : List BidiClass) → list_all (is_inert_after_w6 odd) before ≡ true
    → is_inert_after_w6 odd c ≡ true → is_direction_or_neutral odd (w7_rule (direction odd) before c after) ≡ true
inert_w7 true before EN after h k = absurd (cc k)
inert_w7 false before EN after h k = simp (nearest_l before h)
inert_w7 true before c after h k = k
inert_w7 false before c after h k = k

-- a test that each answer of a rule passes, where it passes for all that the rule reads
pub list_all-around : (rule : List BidiClass → BidiClass → List BidiClass → BidiClass) (p q : BidiClass → Bool)
    → ((before : List BidiClass) (c : BidiClass) (after : List BidiClass) → list_all p before ≡ true → p c ≡ true → list_all p after ≡ true → q (rule before c after) ≡ true)
    → (before xs : List BidiClass) → list_all p before ≡ true → list_all p xs ≡ true → list_all q (in_context rule before xs) ≡ true
list_all-around rule p q answers before [] h k = refl
list_all-around rule p q answers before (x ∷ xs) h k = grind (arith, list_all-around rule p q answers (x ∷ before) xs)

weak_classes-inert : (odd : Bool) (classes : List BidiClass) → list_all (is_inert odd) classes ≡ true → list_all (is_direction_or_neutral odd) (weak_classes (direction odd) classes) ≡ true
unfolding weak_classes
weak_classes-inert odd classes k =
    let d = direction odd in
    let after_w1 = list_all-around (w1_rule d) (is_inert odd) (is_inert_after_w1 odd) (λ before c after h k m. inert_w1 odd before c after h k) [] classes refl k in
    let after_w2 = list_all-around (w2_rule d) (is_inert_after_w1 odd) (is_inert_after_w1 odd) (λ before c after h k m. inert_w2 odd before c after h k) [] (w1 d classes) refl after_w1 in
    let after_w3 = list_all-mapped w3_rule (is_inert_after_w1 odd) (is_inert_after_w3 odd) (inert_w3 odd) (w2 d (w1 d classes)) after_w2 in
    let after_w4 = list_all-around w4_rule (is_inert_after_w3 odd) (is_inert_after_w3 odd) (λ before c after h k m. w4_rule-passes (is_inert_after_w3 odd) before c after h k) [] (w3 (w2 d (w1 d classes))) refl after_w3 in
    let after_w5 = list_all-around w5_rule (is_inert_after_w3 odd) (is_inert_after_w3 odd) (inert_w5 odd) [] (w4 (w3 (w2 d (w1 d classes)))) refl after_w4 in
    let after_w6 = list_all-mapped w6_rule (is_inert_after_w3 odd) (is_inert_after_w6 odd) (inert_w6 odd) (w5 (w4 (w3 (w2 d (w1 d classes))))) after_w5 in
    list_all-around (w7_rule d) (is_inert_after_w6 odd) (is_direction_or_neutral odd) (λ before c after h k m. inert_w7 odd before c after h k) [] (w6 (w5 (w4 (w3 (w2 d (w1 d classes)))))) refl after_w6

-- ---- I1 and I2

implicit_levels-is : (level : ℕ) (classes : List BidiClass) → list_all (is_direction (is_odd level)) classes ≡ true → implicit_levels level classes ≡ replicate (length classes) level
implicit_levels-is level [] h = refl
implicit_levels-is level (c ∷ classes) h = grind (arith, implicit_levels-is level classes)

-- a run of such characters keeps its level
pub run_levels-inert : (level : ℕ) (classes : List BidiClass) (brackets : List (Option BidiMatchedOpeningBracket))
    → list_all (is_inert (is_odd level)) classes ≡ true → run_levels level classes brackets ≡ replicate (length classes) level
run_levels-inert level classes brackets h =
    let d = direction_of level in
    let one = neutral_classes-one d (direction_of-l_or_r level) level classes brackets (weak_classes d classes) refl (weak_classes-inert (is_odd level) classes h) in
    grind (arith, one, implicit_levels-is, length-replicate, length-run_levels)

-- ---- the law

inert_kept : (level : ℕ) (classes : List BidiClass) → list_any (may_leave level) classes ≡ false → list_all (is_inert (is_odd level)) (kept_of classes classes) ≡ true
inert_kept level [] h = refl
inert_kept level (c ∷ classes) h =
    let parts = or_parts (may_leave level c) (list_any (may_leave level) classes) h in
    elim (cases_Bool (is_kept c)) [ inl kept ↦ simp (kept, parts.0, inert_kept level classes parts.1) | inr gone ↦ simp (gone, inert_kept level classes parts.1) ]

-- the tests in their parts
list_any-or : (f g : BidiClass → Bool) (cs : List BidiClass) → list_any (λ c. f c || g c) cs ≡ (list_any f cs || list_any g cs)
list_any-or f g [] = refl
list_any-or f g (c ∷ cs) = simp (list_any-or f g cs) (grind arith)

pub keeps_to-parts : (level : ℕ) (classes : List BidiClass) → keeps_to level classes ≡ (is_flat classes && not (list_any (turns (is_odd level)) classes))
keeps_to-parts level classes = simp (list_any-or is_opener (turns (is_odd level)) classes) (grind arith)

pub levels_in-keeps_to : (para_level : ℕ) (source_classes : List BidiClass) (brackets : List (Option BidiMatchedOpeningBracket))
    → keeps_to para_level source_classes ≡ true → levels_in para_level source_classes brackets ≡ replicate (length source_classes) para_level
levels_in-keeps_to para_level source_classes brackets keeps =
    let flat : is_flat source_classes ≡ true = (and_parts _ _ (sym (keeps_to-parts para_level source_classes) ∙ keeps)).0 in
    let new : List ℕ = replicate (length source_classes) para_level in
    let long : length new ≡ length source_classes = length-replicate (length source_classes) para_level in
    sym (levels_in-flat_written source_classes flat para_level brackets new new
    (simp (
      at_indexes-kept L source_classes source_classes refl,
      at_indexes-kept 0 source_classes new long,
      kept_of-replicate source_classes para_level,
      run_levels-inert para_level (kept_of source_classes source_classes) (at_indexes None brackets (kept_indexes source_classes)) (inert_kept para_level source_classes (not-true _ keeps)),
    ))
    long (λ p within kept. refl) (λ some gone. grind (arith, get_or-replicate)) (λ p within gone. grind (arith, get_or-replicate)))

may_leave-zero : (c : BidiClass) → may_leave 0 c ≡ may_turn c
may_leave-zero L = refl
may_leave-zero _ = refl

keeps_to-zero : (classes : List BidiClass) → list_any (may_leave 0) classes ≡ list_any may_turn classes
keeps_to-zero [] = refl
keeps_to-zero (c ∷ classes) = simp (may_leave-zero c, keeps_to-zero classes)

pub levels_in-pure_ltr : (source_classes : List BidiClass) (brackets : List (Option BidiMatchedOpeningBracket)) → is_pure_ltr source_classes ≡ true → levels_in 0 source_classes brackets ≡ replicate (length source_classes) 0
levels_in-pure_ltr source_classes brackets pure = grind (arith, levels_in-keeps_to, keeps_to-zero)
