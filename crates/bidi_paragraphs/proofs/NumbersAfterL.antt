-- A list of the direction L after L in which European numbers are all that raises a level: W7 makes L of them.
use Rattle.bidi_base.proofs.Common.{◌≡◌, ℕ, Bool, true, false, not, List, [], ◌∷◌, inl, map, Option, refl, sym, ◌∙◌, arith, length-map}
use Rattle.bidi_base.proofs.Common.{cases_Bool, and_parts, list_all, is_al, is_kept, is_l, is_l_or_r, is_nsm, is_strong, carried, nearest}
use Rattle.bidi_base.proofs.Common.{w1, w2, w3, w4, w5, w6, w1_rule, w2_rule, w3_rule, w4_rule, w5_rule, w6_rule, w7_rule, weak_classes, direction_of, neutral_classes}
use Rattle.bidi_base.specs.declared.char_data.BidiClass.{BidiClass}
use Rattle.bidi_base.specs.declared.char_data.BidiClass.TheVariants.{L, EN, ET, AN, CS, NSM}
use Rattle.bidi_base.specs.declared.data_source.BidiMatchedOpeningBracket.{BidiMatchedOpeningBracket}
use Rattle.bidi_laws.proofs.ContextLemmas.{list_all-in_context, list_all-mapped}
use Rattle.bidi_laws.proofs.ResolvedLemmas.{length-weak_classes}
use Rattle.bidi_laws.proofs.WeakLemmas.{weak_classes-resolved}
use Rattle.bidi_paragraphs.proofs.OneLevel.{GiveLevels, all_go, length-neutral_classes, nearest-passes, neutral_classes-is, same_levels}
use Rattle.bidi_paragraphs.specs.KnownLevels.{is_r_al_or_an, number_as_l, raises}

-- no class but L, European numbers and neutrals
abbrev may_be_l : BidiClass → Bool
may_be_l c = not (is_r_al_or_an c)

carried-l : (c : BidiClass) → may_be_l c ≡ true → may_be_l (carried c) ≡ true
carried-l c h = grind arith

l-w1 : (before : List BidiClass) (c : BidiClass) (after : List BidiClass) → list_all may_be_l before ≡ true → may_be_l c ≡ true → may_be_l (w1_rule L before c after) ≡ true
l-w1 before NSM after h k = carried-l (nearest (λ c. not (is_nsm c)) before L) (nearest-passes may_be_l (λ c. not (is_nsm c)) before L h refl)
l-w1 before c after h k = k

no_al : (c : BidiClass) → may_be_l c ≡ true → is_al c ≡ false
no_al c h = grind arith

l-w2 : (before : List BidiClass) (c : BidiClass) (after : List BidiClass) → list_all may_be_l before ≡ true → may_be_l c ≡ true → may_be_l (w2_rule L before c after) ≡ true
l-w2 before EN after h k = simp (no_al (nearest is_strong before L) (nearest-passes may_be_l is_strong before L h refl))
l-w2 before c after h k = k

l-w3 : (c : BidiClass) → may_be_l c ≡ true → may_be_l (w3_rule c) ≡ true
l-w3 c h = grind arith

l-w4 : (before : List BidiClass) (c : BidiClass) (after : List BidiClass) → list_all may_be_l before ≡ true → may_be_l c ≡ true → may_be_l (w4_rule before c after) ≡ true
l-w4 (AN ∷ before) CS (AN ∷ after) h k = absurd (cc h)
l-w4 before c after h k = grind arith

l-w5 : (before : List BidiClass) (c : BidiClass) (after : List BidiClass) → list_all may_be_l before ≡ true → may_be_l c ≡ true → may_be_l (w5_rule before c after) ≡ true
l-w5 before ET after h k = grind arith
l-w5 before c after h k = k

l-w6 : (c : BidiClass) → may_be_l c ≡ true → may_be_l (w6_rule c) ≡ true
l-w6 c h = grind arith

not_r : (c : BidiClass) → may_be_l c ≡ true → is_l_or_r c ≡ true → is_l c ≡ true
not_r c h k = grind arith

-- the nearest L or R
l_before : (before : List BidiClass) → list_all may_be_l before ≡ true → is_l (nearest is_l_or_r before L) ≡ true
l_before [] h = refl
l_before (c ∷ before) h = grind (arith, cases_Bool (is_l_or_r c), and_parts, not_r c, l_before before)

l-w7 : (before : List BidiClass) (c : BidiClass) (after : List BidiClass) → list_all may_be_l before ≡ true → may_be_l c ≡ true → not (raises L (w7_rule L before c after)) ≡ true
unfolding raises
l-w7 before EN after h k = simp (l_before before h)
l-w7 before c after h k = grind arith

l-weak : (classes : List BidiClass) → list_all may_be_l classes ≡ true → list_all (λ c. not (raises L c)) (weak_classes L classes) ≡ true
unfolding weak_classes
l-weak classes h =
    let after_w1 = list_all-in_context (w1_rule L) may_be_l may_be_l l-w1 [] classes refl h in
    let after_w2 = list_all-in_context (w2_rule L) may_be_l may_be_l l-w2 [] (w1 L classes) refl after_w1 in
    let after_w3 = list_all-mapped w3_rule may_be_l may_be_l l-w3 (w2 L (w1 L classes)) after_w2 in
    let after_w4 = list_all-in_context w4_rule may_be_l may_be_l l-w4 [] (w3 (w2 L (w1 L classes))) refl after_w3 in
    let after_w5 = list_all-in_context w5_rule may_be_l may_be_l l-w5 [] (w4 (w3 (w2 L (w1 L classes)))) refl after_w4 in
    let after_w6 = list_all-mapped w6_rule may_be_l may_be_l l-w6 (w5 (w4 (w3 (w2 L (w1 L classes))))) after_w5 in
    list_all-in_context (w7_rule L) may_be_l (λ c. not (raises L c)) l-w7 [] (w6 (w5 (w4 (w3 (w2 L (w1 L classes)))))) refl after_w6

as_l-raises : (c : BidiClass) → may_be_l c ≡ true → not (raises L (number_as_l c)) ≡ true
unfolding raises
as_l-raises c h = grind arith

pub GiveLevels-numbers : (level : ℕ) (sos eos : BidiClass) (source_classes : List BidiClass) (brackets : List (Option BidiMatchedOpeningBracket)) (classes : List BidiClass) → L ≡ direction_of level → sos ≡ L
    → list_all is_kept classes ≡ true → list_all (λ c. not (is_r_al_or_an c)) classes ≡ true → GiveLevels level sos eos source_classes brackets classes (map number_as_l classes)
GiveLevels-numbers level sos eos source_classes brackets classes own before kept all =
    rw before (same_levels level (map number_as_l classes) (neutral_classes level L eos source_classes brackets (weak_classes L classes))
    (rw (← own) (list_all-mapped number_as_l may_be_l (λ c. not (raises L c)) as_l-raises classes all))
    (rw (← own) (neutral_classes-is L refl L eos (inl refl) level source_classes brackets (weak_classes L classes) own
    (all_go L refl (weak_classes L classes) (weak_classes-resolved L classes refl kept) (l-weak classes all))))
    (length-map classes number_as_l ∙ sym (length-neutral_classes level L eos source_classes brackets (weak_classes L classes) ∙ length-weak_classes L classes)))
