-- The first lane that a test marks, in a range of sixteen lanes.
use Rattle.bidi_base.proofs.Common.{◌≡◌, ℕ, ◌+◌, ◌-◌, ◌^◌, ◌<◌, ◌≤◌, ◌==◌, Bool, true, false, not, List, map, length, cond, eqb, ap, ◌∙◌, sym, arith, nat_tests, slice_index}
use Rattle.bidi_base.proofs.Common.{get_or-map, length-map}
use mir.Syntax.{w64}
use Rattle.std.specs.Int.{bit_at, trailing_zeros}
use Rattle.std.proofs.lemmas.Nat.Bits.{bit_at-zero, bit_at-trailing_zeros}
use Rattle.std.proofs.lemmas.List.{get_or_past}
use Rattle.std.proofs.lemmas.Simd.{bit_mask_l, mask_l-lt}
use Rattle.bidi_base.specs.Search.{IsEndOfLast, IsFirst}
use lib.Lanes.{mask_l}

abbrev pub is_marked : ℕ → Bool
is_marked mark = not (eqb mark 0)

marked_is : (b : Bool) (mark : ℕ) → mark ≡ cond b 1 0 → (cond (is_marked mark) 1 0 == 1) ≡ b
marked_is true mark e = grind (arith, nat_tests)
marked_is false mark e = grind (arith, nat_tests)

-- the bits of the mask are those of the items
module _ (test : ℕ → Bool) (at : ℕ) (marks : List ℕ) (long : length marks ≡ 16)
    (marked : (j : ℕ) → j < 16 → slice_index marks j ≡ cond (test (at + j)) 1 0) where
  abbrev pub mask : ℕ
  mask = mask_l (map is_marked marks)

  bit_of : (k : ℕ) → at ≤ k → k < at + 16 → (bit_at mask (k - at) == 1) ≡ test k
  bit_of k low high =
      let lane : ℕ = k - at in
      let here : at + lane ≡ k = omega arith in
      ap (λ n. n == 1) (bit_mask_l (map is_marked marks) lane ∙ ap (λ b. cond b 1 0) (get_or-map is_marked marks lane 0 false (omega arith)))
      ∙ marked_is (test (at + lane)) (slice_index marks lane) (marked lane (omega arith))
      ∙ ap test here

  pub none_of_sixteen : mask ≡ 0 → (k : ℕ) → at ≤ k → k < at + 16 → test k ≡ false
  none_of_sixteen none k low high = let own = bit_of k low high in let clear = bit_at-zero (k - at) in grind (arith, nat_tests)

  pub first_of_sixteen : 0 < mask → (at + trailing_zeros w64 mask < at + 16) × IsFirst test at (at + 16) (at + trailing_zeros w64 mask)
  first_of_sixteen some = (
    within,
    record {
      begins = omega arith;
      ends = omega (arith, within);
      before = λ k low high. let clear = lowest.2 (k - at) (omega arith) in let own = bit_of k low (omega (arith, within)) in grind (arith, nat_tests);
      at = λ below. let own = bit_of (at + found) (omega arith) (omega (arith, within)) in let back : at + found - at ≡ found = omega arith in grind (arith, nat_tests, lowest.1);
    },
  )
    where
      found : ℕ
      found = trailing_zeros w64 mask

      low : mask < 2 ^ 16
      low = let below = mask_l-lt (map is_marked marks) in let n : length (map is_marked marks) ≡ 16 = length-map marks is_marked ∙ long in rw n at below

      lowest : (found < 64) × (bit_at mask found ≡ 1) × ((i : ℕ) → i < found → bit_at mask i ≡ 0)
      lowest = bit_at-trailing_zeros w64 mask some (omega (arith, low))

      none_after : 16 ≤ found → bit_at mask found ≡ 0
      none_after past = bit_mask_l (map is_marked marks) found ∙ ap (λ b. cond b 1 0) (get_or_past (map is_marked marks) found false (omega (arith, length-map marks is_marked, long)))

      within : at + found < at + 16
      within = grind (arith, lowest.1, none_after)

-- a search through the items in reverse order
pub last_from_reversed : (test : ℕ → Bool) (n len from to i : ℕ) → len ≡ n → from ≤ to → to ≤ n → IsFirst (λ k. test (n - 1 - k)) (len - to) (len - from) i
    → IsEndOfLast test from to (len - i)
last_from_reversed test n len from to i is order within f = record {
  begins = omega (arith, f.ends);
  ends = omega (arith, f.begins);
  after = λ k low high.
      let back : n - 1 - (n - 1 - k) ≡ k = omega arith in
      ap test (sym back) ∙ f.before (n - 1 - k) (omega arith) (omega (arith, f.ends));
  before = λ k low next.
      let back : n - 1 - i ≡ k = omega (arith, f.ends) in
      ap test (sym back) ∙ f.at (omega (arith, f.ends));
}
