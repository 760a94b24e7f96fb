-- The pass over units that gives explicit levels, classes and level runs: what it has written once it read some
-- characters.
use native.Mathlib.Numerals.{unary_clauses}
use Rattle.bidi_base.proofs.Common.{◌≡◌, ℕ, zero, suc, ◌+◌, ◌<◌, ◌≤◌, ◌^◌, true, List, [], ◌∷◌, length, get_or, set, unwrap_or, refl, sym, ap, ◌∙◌, arith, length-append, common_steps}
use Rattle.bidi_base.proofs.Common.{length-replicate, is_paragraph_separator, is_removed, class_at, text_len, per_unit, per_char, is_per_char, explicit_levels, processing_class}
use Rattle.bidi_base.proofs.Common.{processing_classes, State, closed, step, state_at, counted, IsWithinDepth, IsPoppable, suc-add, ◌||◌, if◌then◌else◌, length-take, length-drop, answer_class}
use Rattle.bidi_base.proofs.Common.{answer_level}
use Rattle.bidi_base.specs.declared.char_data.BidiClass.{BidiClass}
use Rattle.bidi_base.specs.declared.char_data.BidiClass.TheVariants.{L, BN}
use Rattle.bidi_laws.proofs.ExplicitLemmas.{length-explicit_levels, level_at-explicit_levels, class_at-processing_classes}
use Rattle.bidi_base.proofs.TextLemmas.{HasUnits}
use Rattle.bidi_base.proofs.PerUnit.{per_char-per_unit}
use Rattle.bidi_base.proofs.UnitsLemmas.{is_per_char-per_unit}
use Rattle.bidi_text.proofs.PerCharTests.{level_eq}
use Rattle.bidi_laws.proofs.StatusMachine.{answer_class-explicit_class, answer_level-explicit_level}
use Rattle.bidi_laws.proofs.StatusBounds.{state_at-IsPoppable, closed-IsWithinDepth, closed-counted, state_at-more}
use Rattle.bidi_explicit.specs.RunCutting.{filled}

pub processing_class-is : (para_level : ℕ) (classes : List BidiClass) (k : ℕ) → k < length classes
    → (if is_removed (class_at classes k) then BN else if is_paragraph_separator (class_at classes k) || is_removed (class_at classes k) then class_at classes k else unwrap_or (closed (class_at classes k) (state_at para_level classes k)).top.status.override (class_at classes k))
    ≡ processing_class para_level classes k
unfolding processing_class
processing_class-is para_level classes k fits = grind (arith, answer_class-explicit_class) steps 400000

-- writing the units of a character
pub length-filled : {X : Type 0} (from len : ℕ) (x : X) (units : List X) → from + len ≤ length units → length (filled from len x units) ≡ length units
length-filled from len x units fits = grind (arith, length-append, length-take, length-replicate, length-drop)

next-filled : {X : Type 0} (from len : ℕ) (x : X) (units : List X) → from + len < length units → set (filled from len x units) (from + len) x ≡ filled from (len + 1) x units
next-filled from len x [] fits = absurd (omega arith)
next-filled zero zero x (y ∷ units) fits = refl
next-filled zero (suc len) x (y ∷ units) fits = simp unary_clauses (ap (λ us. x ∷ us) (simp unary_clauses at (next-filled zero len x units (omega arith))))
next-filled (suc from) len x (y ∷ units) fits = simp (suc-add, next-filled from len x units (omega arith))

-- one unit more
pub filled-more : {X : Type 0} (from len at : ℕ) (x : X) (old units : List X) → at ≡ from + len → at < length old → units ≡ filled from len x old → set units at x ≡ filled from (len + 1) x old
filled-more from len at x old units is fits h = grind (arith, next-filled)

module _ (len_of : ℕ → ℕ) (chars : List ℕ) (para_level : ℕ) (stored : List BidiClass) where
  -- what the machine asks before it reads the k-th character
  pub record CanRead (class : BidiClass) (stack : State) : Type 0 where
    pub poppable : IsPoppable stack
    pub depth : IsWithinDepth para_level (closed class stack)
    pub counts : counted (closed class stack) + 1 < 2 ^ 64

  pub can_read : (k : ℕ) (stack : State) (class : BidiClass) → para_level ≤ 125 → k < length stored → length stored < 2 ^ 64
      → class ≡ class_at stored k → stack ≡ state_at para_level stored k → CanRead class stack
  can_read k stack class low within few is machine = grind (arith, closed-counted, state_at-IsPoppable, closed-IsWithinDepth) steps 400000

  -- one character more
  module _ (k : ℕ) (within : k < length stored) (class : BidiClass) (class_is : class ≡ class_at stored k) (stack next : State) (level : ℕ) (put : BidiClass) (next_is : next ≡ step class stack)
      (level_is : level ≡ answer_level para_level class stack) (put_is : put ≡ (if is_removed class then BN else answer_class class stack)) where
    pub level_at : stack ≡ state_at para_level stored k → level ≡ get_or (explicit_levels para_level stored) k 0
    level_at machine = grind (arith, answer_level-explicit_level, level_at-explicit_levels)

    pub put_at : stack ≡ state_at para_level stored k → put ≡ get_or (processing_classes para_level stored) k L
    put_at machine = grind (arith, processing_class-is, class_at-processing_classes)

    pub next_at : stack ≡ state_at para_level stored k → next ≡ state_at para_level stored (k + 1)
    next_at machine = next_is ∙ ap (λ c. step c stack) class_is ∙ ap (step (class_at stored k)) machine ∙ sym (state_at-more para_level stored k)

pub text_len-some : (len_of : ℕ → ℕ) (chars : List ℕ) → 0 < text_len len_of chars → 0 < length chars
text_len-some len_of chars some = grind (arith, common_steps)

-- what is left is one level for each character, each its explicit one
pub per_char-explicit_levels : (len_of : ℕ → ℕ) → HasUnits len_of
    → (chars : List ℕ) (para_level : ℕ) (stored : List BidiClass) (levels : List ℕ) → length stored ≡ length chars
    → levels ≡ per_unit len_of chars (explicit_levels para_level stored)
    → per_char 0 len_of chars levels ≡ explicit_levels para_level stored
per_char-explicit_levels len_of h chars para_level stored levels long is = ap (per_char 0 len_of chars) is ∙ per_char-per_unit len_of h 0 chars (explicit_levels para_level stored) (length-explicit_levels para_level stored ∙ long)

pub is_per_char-explicit_levels : (len_of : ℕ → ℕ) (chars : List ℕ) (para_level : ℕ) (stored : List BidiClass) (levels : List ℕ)
    → length stored ≡ length chars → levels ≡ per_unit len_of chars (explicit_levels para_level stored)
    → is_per_char level_eq len_of chars levels ≡ true
is_per_char-explicit_levels len_of chars para_level stored levels long is = grind (arith, is_per_char-per_unit, length-explicit_levels) steps 400000
