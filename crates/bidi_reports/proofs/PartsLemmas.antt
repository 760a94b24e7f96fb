-- What reading a pattern keeps.
use Rattle.std.proofs.Common.{◌≡◌, ℕ, ◌-◌, ◌<◌, List, [], ◌∷◌, ◌++◌, length, drop, arith, suc, zero, refl, ap, sym, Option, Some, None, option_map, append_assoc, append-nil}
use Rattle.bidi_reports.specs.declared.glob.Part.{Part}
use Rattle.bidi_reports.specs.Globs.{first_part, parts_after, parts_of}

-- skipped characters are dropped
after-skipped : (skipped : ℕ) (text : List ℕ) → parts_after skipped text ≡ parts_after zero (drop skipped text)
after-skipped zero text = refl
after-skipped (suc skipped) [] = refl
after-skipped (suc skipped) (c ∷ text) = after-skipped skipped text

-- a text writes the part that it begins with, and those that follow
pub parts-step : (text : List ℕ) (part : Part) (len : ℕ) → first_part text ≡ Some (part, len) → 0 < len → 0 < length text
    → parts_of text ≡ option_map (λ parts. part ∷ parts) (parts_of (drop len text))
unfolding parts_of
parts-step [] part len is some within = absurd (omega arith)
parts-step (c ∷ text) part (suc len) is some within =
    let same : suc len - 1 ≡ len = omega arith in rw (is, same, ← after-skipped len text) refl
parts-step (c ∷ text) part zero is some within = absurd (omega arith)

pub parts-none : (text : List ℕ) → first_part text ≡ None → 0 < length text → parts_of text ≡ None
unfolding parts_of
parts-none [] is within = absurd (omega arith)
parts-none (c ∷ text) is within = rw is refl

-- one more at the end of what was read
pub push-read : {X : Type 0} (all : Option (List X)) (front : List X) (x : X) (rest after : Option (List X))
    → all ≡ option_map (λ more. front ++ more) rest → rest ≡ option_map (λ xs. x ∷ xs) after
    → all ≡ option_map (λ more. (front ++ x ∷ []) ++ more) after
push-read all front x rest None e f = rw (e, f) refl
push-read all front x rest (Some xs) e f = rw (e, f) (ap Some (sym (append_assoc front (x ∷ []) xs)))

pub parts-end : (front : List Part) → option_map (λ more. front ++ more) (parts_of []) ≡ Some front
unfolding parts_of
parts-end front = ap Some (append-nil front)
