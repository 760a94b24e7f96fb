-- The blocks of classes of the first plane beside the property, block by block.
use Rattle.bidi_base.proofs.Common.{◌≡◌, ℕ, zero, suc, ◌+◌, ◌*◌, ◌/◌, ◌%◌, ◌<◌, ◌≤◌, Bool, true, ◌&&◌, nat_le, List, [], ◌∷◌, length, get_or, take, drop}
use Rattle.bidi_base.proofs.Common.{refl, sym, ap, ◌∙◌, arith, and_parts, leb-true, get_or-take, get_or-drop, length-take, length-drop}
use Rattle.ucd_table.specs.Steps.{Step, step_value}
use Rattle.ucd_table.proofs.StepsLemmas.{skip, step_value-skip}
use Rattle.ucd_table.proofs.Computing.{tables}
use Rattle.ucd_bidi.specs.BidiClass.{bidi_class}
use Rattle.ucd_bidi.specs.declared.BidiClass as Property
use Rattle.ucd_bidi.proofs.BidiClassLemmas.{bidi_class_stepped}
use Rattle.bidi_base.specs.declared.char_data.BidiClass.{BidiClass}
use Rattle.bidi_base.specs.declared.char_data.BidiClass.TheVariants.{L}
use Rattle.bidi_unicode.specs.Unicode.{class_named}
use Rattle.bidi_unicode.specs.declared.plane_classes.TheConstants.{BLOCK_OF, BLOCK_CLASSES}
use Rattle.bidi_unicode.proofs.LowClasses.{are_of_steps, are_of_steps-at}

-- the block of classes with a number
abbrev block : List BidiClass → ℕ → List BidiClass
block classes k = take 32 (drop (k * 32) classes)

-- each block has the classes of the characters from c on, by the steps; there are so many classes
unfoldable blocks_of_steps : Property.BidiClass → ℕ → List BidiClass → List ℕ → ℕ → List (Step Property.BidiClass) → Bool
blocks_of_steps default many classes [] c steps = true
blocks_of_steps default many classes (k ∷ ks) c steps =
    let here = skip steps c in
    (nat_le (k * 32 + 32) many && are_of_steps default (block classes k) c here) && blocks_of_steps default many classes ks (c + 32) here

blocks_of_steps-at : (default : Property.BidiClass) (classes : List BidiClass) (blocks : List ℕ) (c : ℕ) (steps : List (Step Property.BidiClass)) (i j : ℕ)
    → blocks_of_steps default (length classes) classes blocks c steps ≡ true → i < length blocks → j < 32
    → (get_or blocks i 0 * 32 + 32 ≤ length classes) × (get_or classes (get_or blocks i 0 * 32 + j) L ≡ class_named (step_value default steps (c + (i * 32 + j))))
unfolding blocks_of_steps
blocks_of_steps-at default classes [] c steps i j h fits inside = absurd (omega arith)
blocks_of_steps-at default classes (k ∷ ks) c steps zero j h fits inside =
    let here = skip steps c in
    let parts = and_parts (nat_le (k * 32 + 32) (length classes) && are_of_steps default (block classes k) c here) (blocks_of_steps default (length classes) classes ks (c + 32) here) h in
    let first = and_parts (nat_le (k * 32 + 32) (length classes)) (are_of_steps default (block classes k) c here) parts.0 in
    let room : k * 32 + 32 ≤ length classes = leb-true (k * 32 + 32) (length classes) first.0 in
    let long : j < length (block classes k) = omega (arith, length-take 32 (drop (k * 32) classes), length-drop (k * 32) classes, room) in
    let at : c + (zero * 32 + j) ≡ c + j = omega arith in
    let here_class : get_or (block classes k) j L ≡ class_named (step_value default here (c + j)) = are_of_steps-at default (block classes k) c here j first.1 long in
    let read : get_or (block classes k) j L ≡ get_or classes (k * 32 + j) L = get_or-take 32 (drop (k * 32) classes) j L inside ∙ get_or-drop (k * 32) classes j L in
    (room, sym read ∙ here_class ∙ ap class_named (step_value-skip default steps c (c + j) (omega arith) ∙ ap (step_value default steps) (sym at)))
blocks_of_steps-at default classes (k ∷ ks) c steps (suc i) j h fits inside =
    let here = skip steps c in
    let parts = and_parts (nat_le (k * 32 + 32) (length classes) && are_of_steps default (block classes k) c here) (blocks_of_steps default (length classes) classes ks (c + 32) here) h in
    let at : c + 32 + (i * 32 + j) ≡ c + (suc i * 32 + j) = omega arith in
    let later = blocks_of_steps-at default classes ks (c + 32) here i j parts.1 (omega arith) inside in
    (later.0, later.1 ∙ ap class_named (step_value-skip default steps c (c + 32 + (i * 32 + j)) (omega arith) ∙ ap (step_value default steps) at))

plane_ok : blocks_of_steps bidi_class_stepped.default 5952 BLOCK_CLASSES BLOCK_OF 0 bidi_class_stepped.steps ≡ true
unfolding tables bidi_class_stepped are_of_steps blocks_of_steps
plane_ok = refl

many_classes : length BLOCK_CLASSES ≡ 5952
many_classes = refl

many_blocks : length BLOCK_OF ≡ 2048
many_blocks = refl

plane_ok_whole : blocks_of_steps bidi_class_stepped.default (length BLOCK_CLASSES) BLOCK_CLASSES BLOCK_OF 0 bidi_class_stepped.steps ≡ true
plane_ok_whole = ap (λ many. blocks_of_steps bidi_class_stepped.default many BLOCK_CLASSES BLOCK_OF 0 bidi_class_stepped.steps) many_classes ∙ plane_ok

-- where the class of a character stands
abbrev pub class_place : ℕ → ℕ
class_place c = get_or BLOCK_OF (c / 32) 0 * 32 + c % 32

at_character : (c : ℕ) → c < 0x1_0000
    → (get_or BLOCK_OF (c / 32) 0 * 32 + 32 ≤ length BLOCK_CLASSES) × (get_or BLOCK_CLASSES (class_place c) L ≡ class_named (step_value bidi_class_stepped.default bidi_class_stepped.steps (0 + (c / 32 * 32 + c % 32))))
at_character c low =
    blocks_of_steps-at bidi_class_stepped.default BLOCK_CLASSES BLOCK_OF 0 bidi_class_stepped.steps (c / 32) (c % 32) plane_ok_whole (omega (arith, many_blocks)) (omega arith)

pub class_place-fits : (c : ℕ) → c < 0x1_0000 → class_place c < 5952
class_place-fits c low = omega (arith, (at_character c low).0, many_classes)

pub BLOCK_CLASSES-class : (c : ℕ) → c < 0x1_0000 → get_or BLOCK_CLASSES (class_place c) L ≡ class_named (bidi_class c)
BLOCK_CLASSES-class c low =
    let at : 0 + (c / 32 * 32 + c % 32) ≡ c = omega arith in
    (at_character c low).1 ∙ ap (λ n. class_named (step_value bidi_class_stepped.default bidi_class_stepped.steps n)) at ∙ ap class_named (sym (bidi_class_stepped.gives c))
