-- The classes that W1 to W7 leave: of kept classes, those with a direction and the neutrals.
use Rattle.bidi_base.proofs.Common.{◌≡◌, Bool, true, false, if◌then◌else◌, not, ◌&&◌, List, [], ◌∷◌, refl, arith, list_all, and_parts, is_kept, is_nsm, is_al, is_l, is_l_or_r, is_strong}
use Rattle.bidi_base.proofs.Common.{is_weak_resolved, carried, nearest, w1_rule, w2_rule, w3_rule, w4_rule, w5_rule, w6_rule, w7_rule, w1, w2, w3, w4, w5, w6, weak_classes}
use Rattle.bidi_base.specs.declared.char_data.BidiClass.{BidiClass}
use Rattle.bidi_base.specs.declared.char_data.BidiClass.TheVariants.{L, R, AL, EN, ES, ET, AN, CS, NSM}
use Rattle.bidi_laws.proofs.ContextLemmas.{list_all-in_context, list_all-mapped}
use Rattle.bidi_base.proofs.PlacesLemmas.{nearest-more}

-- after W1 no nonspacing mark is left, after W3 no Arabic letter, after W6 no separator and no terminator
abbrev is_after_w1 : BidiClass → Bool
is_after_w1 c = is_kept c && not (is_nsm c)

abbrev is_after_w3 : BidiClass → Bool
is_after_w3 c = is_kept c && not (is_nsm c) && not (is_al c)

nearest_after_w1 : (sos : BidiClass) (before : List BidiClass) → is_after_w1 sos ≡ true → list_all is_kept before ≡ true → is_after_w1 (nearest (λ c. not (is_nsm c)) before sos) ≡ true
nearest_after_w1 sos [] h k = h
nearest_after_w1 sos (b ∷ before) h k = grind (arith, and_parts, nearest_after_w1 sos before h, nearest-more)

carried_kept : (c : BidiClass) → is_after_w1 c ≡ true → is_after_w1 (carried c) ≡ true
carried_kept c h = grind arith

-- what W4 gives is the class itself, or the one before it
pub w4_rule-passes : (p : BidiClass → Bool) (before : List BidiClass) (c : BidiClass) (after : List BidiClass) → list_all p before ≡ true → p c ≡ true → p (w4_rule before c after) ≡ true
w4_rule-passes p (EN ∷ before) ES (EN ∷ after) h k = (and_parts (p EN) (list_all p before) h).0
w4_rule-passes p (EN ∷ before) CS (EN ∷ after) h k = (and_parts (p EN) (list_all p before) h).0
w4_rule-passes p (AN ∷ before) CS (AN ∷ after) h k = (and_parts (p AN) (list_all p before) h).0
w4_rule-passes p before c after h k = k

-- one of two classes that both pass
pub either_passes : (p : BidiClass → Bool) (b : Bool) (c d : BidiClass) → p c ≡ true → p d ≡ true → p (if b then c else d) ≡ true
either_passes p true c d h k = h
either_passes p false c d h k = k

module _ (sos : BidiClass) where
  passes_w1 : is_l_or_r sos ≡ true → (before : List BidiClass) (c : BidiClass) (after : List BidiClass) → list_all is_kept before ≡ true
      → is_kept c ≡ true → is_after_w1 (w1_rule sos before c after) ≡ true
  passes_w1 side before NSM after h k = carried_kept _ (nearest_after_w1 sos before (start sos side) h)
    where
      start : (e : BidiClass) → is_l_or_r e ≡ true → is_after_w1 e ≡ true
      start L s = refl
      start R s = refl
      start _ s = absurd (cc s)
  passes_w1 side before c after h k = k

  passes_w2 : (before : List BidiClass) (c : BidiClass) (after : List BidiClass) → list_all is_after_w1 before ≡ true → is_after_w1 c ≡ true → is_after_w1 (w2_rule sos before c after) ≡ true
  passes_w2 before EN after h k = either_passes is_after_w1 (is_al (nearest is_strong before sos)) AN EN refl refl
  passes_w2 before c after h k = k

  passes_w7 : (before : List BidiClass) (c : BidiClass) (after : List BidiClass) → list_all is_weak_resolved before ≡ true
      → is_weak_resolved c ≡ true → is_weak_resolved (w7_rule sos before c after) ≡ true
  passes_w7 before EN after h k = either_passes is_weak_resolved (is_l (nearest is_l_or_r before sos)) L EN refl refl
  passes_w7 before c after h k = k

passes_w3 : (c : BidiClass) → is_after_w1 c ≡ true → is_after_w3 (w3_rule c) ≡ true
passes_w3 AL h = refl
passes_w3 _ h = h

passes_w5 : (before : List BidiClass) (c : BidiClass) (after : List BidiClass) → list_all is_after_w3 before ≡ true → is_after_w3 c ≡ true → is_after_w3 (w5_rule before c after) ≡ true
passes_w5 before ET after h k = either_passes is_after_w3 _ EN ET refl refl
passes_w5 before c after h k = k

passes_w6 : (c : BidiClass) → is_after_w3 c ≡ true → is_weak_resolved (w6_rule c) ≡ true
passes_w6 ES h = refl
passes_w6 ET h = refl
passes_w6 CS h = refl
passes_w6 _ h = h

pub weak_classes-resolved : (sos : BidiClass) (classes : List BidiClass) → is_l_or_r sos ≡ true → list_all is_kept classes ≡ true → list_all is_weak_resolved (weak_classes sos classes) ≡ true
unfolding weak_classes
weak_classes-resolved sos classes h k =
    let after_w1 = list_all-in_context (w1_rule sos) is_kept is_after_w1 (passes_w1 sos h) [] classes refl k in
    let after_w2 = list_all-in_context (w2_rule sos) is_after_w1 is_after_w1 (passes_w2 sos) [] (w1 sos classes) refl after_w1 in
    let after_w3 = list_all-mapped w3_rule is_after_w1 is_after_w3 passes_w3 (w2 sos (w1 sos classes)) after_w2 in
    let after_w4 = list_all-in_context w4_rule is_after_w3 is_after_w3 (w4_rule-passes is_after_w3) [] (w3 (w2 sos (w1 sos classes))) refl after_w3 in
    let after_w5 = list_all-in_context w5_rule is_after_w3 is_after_w3 passes_w5 [] (w4 (w3 (w2 sos (w1 sos classes)))) refl after_w4 in
    let after_w6 = list_all-mapped w6_rule is_after_w3 is_weak_resolved passes_w6 (w5 (w4 (w3 (w2 sos (w1 sos classes))))) after_w5 in
    list_all-in_context (w7_rule sos) is_weak_resolved is_weak_resolved (passes_w7 sos) [] (w6 (w5 (w4 (w3 (w2 sos (w1 sos classes)))))) refl after_w6
