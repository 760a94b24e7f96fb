-- A list that was only appended to, and a string that is cut back to what it was.
use Rattle.bidi_base.proofs.Common.{◌≡◌, ◌∙◌, ℕ, ◌≤◌, false, Result, Ok, Err, OnOk, List, ◌++◌, length, take, ap, sym, subst, arith, length-take, le_refl, take-append_seam, take-take, take_all, IsUtf8, IsCharBoundary-from_take}
use Rattle.std.specs.Prelude.{is_err}
use Rattle.std.specs.String.Boundary.{IsSplitPoint}
use Rattle.bidi_display.specs.Extends.{Extends}

-- what is appended leaves the front
pub Extends-appended : {T : Type 0} (before more after : List T) → after ≡ before ++ more → Extends before after
Extends-appended before more after e = ap (take (length before)) e ∙ take-append_seam before more

pub Extends-same : {T : Type 0} (before after : List T) → after ≡ before → Extends before after
Extends-same before after e = ap (take (length before)) e ∙ take_all (length before) before (le_refl _)

pub Extends-trans : {T : Type 0} (before between after : List T) → Extends before between → Extends between after → Extends before after
Extends-trans before between after first second =
    let within : length before ≤ length between = omega (arith, ap length first, length-take (length before) between) in
    sym (take-take (length before) (length between) after within) ∙ ap (take (length before)) second ∙ first

pub Extends-length : {T : Type 0} (before after : List T) → Extends before after → length before ≤ length after
Extends-length before after extends = omega (arith, ap length extends, length-take (length before) after)

-- a string that was only appended to can be cut back
pub cut_back : (before after : List ℕ) → Extends before after → IsUtf8 before → IsUtf8 after → IsSplitPoint after (length before)
cut_back before after extends of_before of_after =
    let within : length before ≤ length after = omega (arith, ap length extends, length-take (length before) after) in
    let boundary = IsCharBoundary-from_take after (length before) of_after within (subst IsUtf8 (sym extends) of_before) in
    (boundary.0, λ _. boundary.1)

-- a call that did not fail
pub ok_from_is_err : {T E P : Type 0} (r : Result T E) → is_err r ≡ false → OnOk r P → P
ok_from_is_err (Ok x) e p = p
ok_from_is_err (Err x) e p = absurd (cc e)
