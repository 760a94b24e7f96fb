-- The table of the lowest characters beside the property, by one walk over both.
use Rattle.bidi_base.proofs.Common.{◌≡◌, ℕ, zero, suc, ◌+◌, ◌<◌, Bool, true, ◌&&◌, ◌==◌, List, [], ◌∷◌, length, get_or, refl, sym, ap, ◌∙◌, arith, and_parts, eqb-true, class_number}
use Rattle.ucd_table.specs.Steps.{Step, step_value}
use Rattle.ucd_table.proofs.StepsLemmas.{skip, step_value-skip}
use Rattle.ucd_table.proofs.Computing.{tables}
use Rattle.ucd_bidi.specs.BidiClass.{bidi_class}
use Rattle.ucd_bidi.specs.declared.BidiClass as Property
use Rattle.ucd_bidi.proofs.BidiClassLemmas.{bidi_class_stepped}
use Rattle.bidi_base.specs.declared.char_data.BidiClass.{BidiClass}
use Rattle.bidi_base.specs.declared.char_data.BidiClass.TheVariants.{AL, AN, B, BN, CS, EN, ES, ET, FSI, L, LRE, LRI, LRO, NSM, ON, PDF, PDI, R, RLE, RLI, RLO, S, WS}
use Rattle.bidi_unicode.specs.Unicode.{class_named}
use Rattle.bidi_unicode.specs.declared.low_classes.TheConstants.{LOW_CLASSES}

-- classes of one number are one class
abbrev class_of_number : ℕ → BidiClass
class_of_number n =
    get_or (L ∷ R ∷ AL ∷ EN ∷ ES ∷ ET ∷ AN ∷ CS ∷ NSM ∷ BN ∷ B ∷ S ∷ WS ∷ ON ∷ LRE ∷ LRO ∷ RLE ∷ RLO ∷ PDF ∷ LRI ∷ RLI ∷ FSI ∷ PDI ∷ []) n L

class_of_number-class_number : (c : BidiClass) → class_of_number (class_number c) ≡ c
class_of_number-class_number c = grind arith

same_from_numbers : (a b : BidiClass) → class_number a == class_number b ≡ true → a ≡ b
same_from_numbers a b e =
    sym (class_of_number-class_number a) ∙ ap class_of_number (eqb-true (class_number a) (class_number b) e) ∙ class_of_number-class_number b

-- the classes are those of the characters from c on, by the steps
unfoldable pub are_of_steps : Property.BidiClass → List BidiClass → ℕ → List (Step Property.BidiClass) → Bool
are_of_steps default [] c steps = true
are_of_steps default (x ∷ xs) c steps =
    let here = skip steps c in (class_number x == class_number (class_named (step_value default here c))) && are_of_steps default xs (suc c) here

pub are_of_steps-at : (default : Property.BidiClass) (classes : List BidiClass) (c : ℕ) (steps : List (Step Property.BidiClass)) (k : ℕ)
    → are_of_steps default classes c steps ≡ true → k < length classes
    → get_or classes k L ≡ class_named (step_value default steps (c + k))
unfolding are_of_steps
are_of_steps-at default [] c steps k h fits = absurd (omega arith)
are_of_steps-at default (x ∷ xs) c steps zero h fits =
    let parts = and_parts (class_number x == class_number (class_named (step_value default (skip steps c) c))) (are_of_steps default xs (suc c) (skip steps c)) h in
    let at : c + zero ≡ c = omega arith in
    same_from_numbers x (class_named (step_value default (skip steps c) c)) parts.0 ∙ ap class_named (step_value-skip default steps c c (omega arith) ∙ ap (step_value default steps) (sym at))
are_of_steps-at default (x ∷ xs) c steps (suc k) h fits =
    let parts = and_parts (class_number x == class_number (class_named (step_value default (skip steps c) c))) (are_of_steps default xs (suc c) (skip steps c)) h in
    let at : suc c + k ≡ c + suc k = omega arith in
    are_of_steps-at default xs (suc c) (skip steps c) k parts.1 (omega arith) ∙ ap class_named (step_value-skip default steps c (suc c + k) (omega arith) ∙ ap (step_value default steps) at)

low_classes_ok : are_of_steps bidi_class_stepped.default LOW_CLASSES 0 bidi_class_stepped.steps ≡ true
unfolding tables bidi_class_stepped are_of_steps
low_classes_ok = refl

pub LOW_CLASSES-class : (c : ℕ) → c < length LOW_CLASSES → get_or LOW_CLASSES c L ≡ class_named (bidi_class c)
LOW_CLASSES-class c fits =
    let at : 0 + c ≡ c = omega arith in
    are_of_steps-at bidi_class_stepped.default LOW_CLASSES 0 bidi_class_stepped.steps c low_classes_ok fits
    ∙ ap (λ n. class_named (step_value bidi_class_stepped.default bidi_class_stepped.steps n)) at ∙ ap class_named (sym (bidi_class_stepped.gives c))
