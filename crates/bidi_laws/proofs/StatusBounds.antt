-- The status stack holds at most 126 entries, and each count is at most the number of characters read.
use Rattle.bidi_base.proofs.Common.{◌≡◌, ℕ, ◌+◌, ◌<◌, ◌≤◌, List, [], ◌∷◌, length, arith, class_at, next_level, Entry, State, drop_isolate, closed, step, state_at, IsWithinDepth, counted, IsPoppable}
use Rattle.bidi_base.specs.declared.char_data.BidiClass.{BidiClass}
use Rattle.bidi_laws.proofs.OpenersStack.{left_at, IsPushed, left_at-IsPushed}
use Rattle.bidi_base.specs.StatusMachine.{AreBelow}
use Rattle.bidi_laws.proofs.StatusMachine.{state_of, EnteredAs, state_of-EnteredAs, IsInsideOf, overflowed, inside, split_state, state_at-state_of, closed-state_at}

length_below : (para_level level : ℕ) (es : List Entry) → para_level ≤ level → AreBelow para_level level es → length es + para_level ≤ level
length_below para_level level [] order h = omega arith
length_below para_level level (e ∷ es) order h = grind (arith, length_below para_level e.status.level es h.0 h.2)

-- an opener that is taken finds room
pub IsTaken-room : (para_level : ℕ) (c : BidiClass) (s : State) → IsWithinDepth para_level s → next_level c s.top.status.level ≤ 125 → length (s.top ∷ s.below) < 126
IsTaken-room para_level c s h fits = grind (arith, length_below)

entered-IsWithinDepth : (para_level : ℕ) (c : BidiClass) (s t : State) → EnteredAs c s t → IsWithinDepth para_level s → IsWithinDepth para_level t
entered-IsWithinDepth para_level c s t h0 h = grind arith

state_of-IsWithinDepth : (para_level : ℕ) (classes : List BidiClass) (stack : List ℕ) → para_level ≤ 125 → IsWithinDepth para_level (state_of para_level classes stack)
unfolding state_of
state_of-IsWithinDepth para_level classes [] fits = record { from = omega arith; top = fits; below = tt }
state_of-IsWithinDepth para_level classes (q ∷ stack) fits =
    entered-IsWithinDepth para_level (class_at classes q) _ _ (state_of-EnteredAs para_level classes q stack) (state_of-IsWithinDepth para_level classes stack fits)

pub closed-IsWithinDepth : (para_level : ℕ) (classes : List BidiClass) (p : ℕ) → para_level ≤ 125 → IsWithinDepth para_level (closed (class_at classes p) (state_at para_level classes p))
closed-IsWithinDepth para_level classes p fits = grind (arith, closed-state_at, state_of-IsWithinDepth)

entered_counted : (c : BidiClass) (s t : State) → EnteredAs c s t → counted t ≤ counted s + 1
entered_counted c s t h0 = grind arith

state_of_counted : (para_level : ℕ) (classes : List BidiClass) (stack : List ℕ) → counted (state_of para_level classes stack) ≤ length stack
unfolding state_of
state_of_counted para_level classes [] = omega arith
state_of_counted para_level classes (q ∷ stack) =
    omega (arith, entered_counted (class_at classes q) _ _ (state_of-EnteredAs para_level classes q stack), state_of_counted para_level classes stack)

IsPushed-length : (classes : List BidiClass) (p : ℕ) (stack : List ℕ) → IsPushed classes p stack → length stack ≤ p
IsPushed-length classes p [] h = omega arith
IsPushed-length classes p (q ∷ stack) h = omega (arith, h.0, IsPushed-length classes q stack h.3)

-- so no count is greater than the number of characters read
pub closed-counted : (para_level : ℕ) (classes : List BidiClass) (p : ℕ) → p < length classes → counted (closed (class_at classes p) (state_at para_level classes p)) ≤ p
closed-counted para_level classes p fits =
    grind (arith, closed-state_at, state_of_counted para_level classes (left_at classes p), IsPushed-length classes p (left_at classes p) (left_at-IsPushed classes p))

-- one step, as a loop that counts has it
pub state_at-more : (para_level : ℕ) (classes : List BidiClass) (p : ℕ) → state_at para_level classes (p + 1) ≡ step (class_at classes p) (state_at para_level classes p)
unfolding state_at
state_at-more para_level classes p = grind arith

pops_by : (s t : State) → IsInsideOf s t → t.overflow_isolates ≡ 0 → (u : State) × (drop_isolate (t.top ∷ t.below) ≡ u.top ∷ u.below)
pops_by s t overflowed none = absurd (omega arith)
pops_by s t (inside _ a b c d drops) none = (s, drops)

pub state_at-IsPoppable : (para_level : ℕ) (classes : List BidiClass) (p : ℕ) → IsPoppable (state_at para_level classes p)
state_at-IsPoppable para_level classes p = grind (arith, state_at-state_of, split_state, pops_by)
