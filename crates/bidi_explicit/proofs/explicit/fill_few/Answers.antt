-- One unit after another.
use Rattle.bidi_base.proofs.Common.{◌≡◌, ◌+◌, ◌≤◌, ℕ, List, length, set, sym, arith, common_steps, take-append-drop}
use Rattle.bidi_explicit.specs.RunCutting.{filled}
use Rattle.bidi_explicit.proofs.ExplicitUnits.{filled-more}
use Rattle.bidi_explicit.proofs.explicit.fill_few.Goals as goal

filled-none : {X : Type 0} (from : ℕ) (x : X) (units : List X) → filled from 0 x units ≡ units
filled-none from x units = grind (arith, take-append-drop)

one : {X : Type 0} (start : ℕ) (x : X) (old : List X) → start + 1 ≤ length old → set old start x ≡ filled start 1 x old
one start x old fits = filled-more start 0 start x old old (omega arith) (omega arith) (sym (filled-none start x old))

two : {X : Type 0} (start : ℕ) (x : X) (old : List X) → start + 2 ≤ length old → set (set old start x) (start + 1) x ≡ filled start 2 x old
two start x old fits = grind (arith, common_steps, one) steps 400000

three : {X : Type 0} (start : ℕ) (x : X) (old : List X) → start + 3 ≤ length old → set (set (set old start x) (start + 1) x) (start + 2) x ≡ filled start 3 x old
three start x old fits = filled-more start 2 (start + 2) x old (set (set old start x) (start + 1) x) (omega arith) (omega arith) (two start x old (omega arith))

pub returns-in-1 : goal.returns-in-1
returns-in-1 g c = grind (arith, one) steps 400000

pub returns-in-2 : goal.returns-in-2
returns-in-2 g c = grind (arith, two) steps 400000

pub returns-in-3 : goal.returns-in-3
returns-in-3 g c = grind (arith, three) steps 400000

pub returns-in_default : goal.returns-in_default
returns-in_default g c = grind (arith, common_steps)
