-- The direction of a list of levels by two tests: is some level odd, is some even.
use Rattle.bidi_base.proofs.Common.{◌≡◌, ◌%◌, ℕ, ◌≤◌, if◌then◌else◌, not, true, false, List, [], ◌∷◌, length, take, refl, arith, inl, inr}
use Rattle.bidi_base.proofs.Common.{eq-eqb, ne_eqb, list_all, list_any, take_all, direction_of_levels, is_even, is_odd}
use Rattle.bidi_base.specs.declared.char_data.Direction.TheVariants.{Ltr, Rtl, Mixed}
use Rattle.bidi_base.proofs.LevelsLemmas.{odd_or_even, is_odd-not_even}

all_even : (levels : List ℕ) → list_all is_even levels ≡ not (list_any is_odd levels)
all_even [] = refl
all_even (level ∷ levels) = grind (arith, is_odd-not_even, all_even levels)

all_odd : (levels : List ℕ) → list_all is_odd levels ≡ not (list_any is_even levels)
all_odd [] = refl
all_odd (level ∷ levels) = grind (arith, is_odd-not_even, all_odd levels)

-- what two numbers tell that are odd where some level is odd, and where some is even
pub direction_of_levels-read : (levels : List ℕ) (odd even i : ℕ) → length levels ≤ i → is_odd odd ≡ list_any is_odd (take i levels) → is_odd even ≡ list_any is_even (take i levels)
    → direction_of_levels levels ≡ (if not (is_odd even) then Rtl else if not (is_odd odd) then Ltr else Mixed)
unfolding direction_of_levels
direction_of_levels-read levels odd even i past e f = grind (arith, all_even, all_odd, take_all)

pub not_odd : (n : ℕ) → n % 2 ≡ 0 → is_odd n ≡ false
not_odd n e = ne_eqb (n % 2) 1 (λ o. omega arith)

pub odd_since : (n : ℕ) → (n % 2 ≡ 0 → ⊥) → is_odd n ≡ true
odd_since n h = elim (odd_or_even n) [ inl e ↦ absurd (h e) | inr o ↦ eq-eqb (n % 2) 1 o ]
