-- The lines of clusters, one after another.
use Rattle.bidi_base.proofs.Common.{◌≡◌, ℕ, ◌<◌, ◌≤◌, zero, suc, List, [], ◌∷◌, length, drop, max, refl}
use Rattle.bidi_base.proofs.Common.{arith, length-drop, cases_Bool, inl, inr, nat_le, nat_lt, ◌||◌}
use Rattle.bidi_shown.specs.Breaks.{fitting, first_line, line_of_fitting, line_range, lines_up_to, lines_of, up_to_space, leading_spaces, cut_line}
use Rattle.bidi_shown.specs.declared.cluster.Cluster.{Cluster}

cut_line-some : (n fit : ℕ) → 0 < fit → 0 < (cut_line n fit).taken
cut_line-some zero fit some = some
cut_line-some (suc n) fit some = omega arith

line_of_fitting-some : (fit : ℕ) (ks : List Cluster) → 0 < fit → 0 < (line_of_fitting fit ks).taken
line_of_fitting-some fit ks some = elim (cases_Bool (nat_le (length ks) fit || nat_lt 0 (leading_spaces (drop fit ks)))) [
  | inl ends ↦ simp ends (omega arith)
  | inr goes_on ↦ simp goes_on (cut_line-some (up_to_space ks fit) fit some)
]

first_line-some : (limit : ℕ) (ks : List Cluster) → 0 < (first_line limit ks).taken
first_line-some limit ks = line_of_fitting-some (max 1 (fitting limit 0 ks)) ks (omega arith)

-- more than enough lines are enough
lines_up_to-enough : (limit n m : ℕ) (ks : List Cluster) → length ks ≤ n → length ks ≤ m → lines_up_to limit n ks ≡ lines_up_to limit m ks
lines_up_to-enough limit zero zero ks few many = refl
lines_up_to-enough limit zero (suc m) [] few many = refl
lines_up_to-enough limit (suc n) zero [] few many = refl
lines_up_to-enough limit (suc n) (suc m) [] few many = refl
lines_up_to-enough limit (suc n) (suc m) (k ∷ ks) few many =
    let rest : List Cluster = drop (first_line limit (k ∷ ks)).taken (k ∷ ks) in
    let short : length rest < length (k ∷ ks) = omega (arith, first_line-some limit (k ∷ ks), length-drop (first_line limit (k ∷ ks)).taken (k ∷ ks)) in
    rw (lines_up_to-enough limit n m rest (omega arith) (omega arith)) refl
lines_up_to-enough limit _ _ (k ∷ ks) few many = absurd (omega arith)

pub lines_of-none : (limit : ℕ) (ks : List Cluster) → length ks ≡ 0 → lines_of limit ks ≡ []
unfolding lines_of
lines_of-none limit [] none = refl
lines_of-none limit (k ∷ ks) none = absurd (omega arith)

-- the first line, and those of the rest
pub lines_of-more : (limit : ℕ) (ks : List Cluster) → 0 < length ks
    → lines_of limit ks ≡ line_range (first_line limit ks) ks ∷ lines_of limit (drop (first_line limit ks).taken ks)
unfolding lines_of
lines_of-more limit [] some = absurd (omega arith)
lines_of-more limit (k ∷ ks) some =
    let rest : List Cluster = drop (first_line limit (k ∷ ks)).taken (k ∷ ks) in
    let short : length rest < length (k ∷ ks) = omega (arith, first_line-some limit (k ∷ ks), length-drop (first_line limit (k ∷ ks)).taken (k ∷ ks)) in
    rw (lines_up_to-enough limit (length ks) (length rest) rest (omega arith) (omega arith)) refl
