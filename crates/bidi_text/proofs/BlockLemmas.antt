-- Sixteen units at once.
use Rattle.bidi_base.proofs.Common.{◌≡◌, ℕ, ◌+◌, ◌-◌, ◌<◌, ◌≤◌, ◌^◌, ◌%◌, Bool, false, nat_le, nat_tests, cond, List, length, take, drop, get_or, map, length-map, replicate, sym, ap, ◌∙◌, arith}
use Rattle.bidi_base.proofs.Common.{take_all, length-drop, get_or-take, get_or-drop, slice_range, tops_compared, zip2_splat_left, mask_l-mod}
use lib.Lanes.{mask_l, top, zip2}
use mir.Syntax.{Width}
use mir.Val.{bits, hbits}
use Rattle.std.proofs.lemmas.Simd.{none_from_empty_mask}

-- `to_bitmask` of the comparison t of a splat with a vector
bitmask_splat_left : (w : Width) (t : ℕ → ℕ → Bool) (x : ℕ) (n : ℕ) (ys : List ℕ) → length ys ≡ n → n ≤ 64
    → mask_l (map (top (hbits w)) (zip2 (λ a b. cond (t a b) (2 ^ bits w - 1) 0) (replicate n x) ys)) % 2 ^ 64 ≡ mask_l (map (λ y. t x y) ys)
bitmask_splat_left w t x n ys long few =
    ap (λ ms. mask_l ms % 2 ^ 64) (tops_compared w t (replicate n x) ys ∙ zip2_splat_left t x n ys long)
    ∙ mask_l-mod (map (λ y. t x y) ys) 64 (omega (arith, few, long, length-map ys (λ y. t x y)))

below_from_le : (unit limit : ℕ) → nat_le limit unit ≡ false → unit < limit
below_from_le unit limit low = grind (arith, nat_tests)

-- where no bit is set, all are below the limit
pub all_below : (w : Width) (limit : ℕ) (us : List ℕ) → length us ≡ 16 → mask_l (map (top (hbits w)) (zip2 (λ a b. cond (nat_le a b) (2 ^ bits w - 1) 0) (replicate 16 limit) us)) % 2 ^ 64 ≡ 0
    → (k : ℕ) → k < 16 → get_or us k 0 < limit
all_below w limit us long none k below =
    let bits = bitmask_splat_left w (λ a b. nat_le a b) limit 16 us long (omega arith) in
    let none = ap (λ xs. mask_l (map (λ b. nat_le limit b) xs)) (take_all 16 us (omega (arith, long))) ∙ sym bits ∙ none in
    below_from_le _ limit (none_from_empty_mask (λ b. nat_le limit b) us 0 16 0 (omega (arith, long)) none k (omega arith) below)

-- the units of a block, in the list that it was read from
pub get_or-block : (us rest : List ℕ) (i k : ℕ) → rest ≡ slice_range us i (length us) → k < 16 → get_or (take 16 rest) k 0 ≡ get_or us (i + k) 0
get_or-block us rest i k is below =
    get_or-take 16 rest k 0 below ∙ ap (λ l. get_or l k 0) (is ∙ take_all (length us - i) (drop i us) (omega (arith, length-drop i us))) ∙ get_or-drop i us k 0
