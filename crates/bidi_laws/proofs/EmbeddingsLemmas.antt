-- Characters that stand inside the same isolates, one isolate at a time.
use Rattle.bidi_base.proofs.Common.{◌≡◌, ℕ, zero, suc, ◌+◌, ◌<◌, ◌≤◌, Bool, true, List, length, refl, arith, list_all, range_with_len, beq, and_parts, and_from, is_inside, is_level_with}
use Rattle.bidi_base.specs.declared.char_data.BidiClass.{BidiClass}

-- a test that passes at each of some consecutive numbers
pub list_all-range_with_len : (test : ℕ → Bool) (low n : ℕ) → list_all test (range_with_len low n) ≡ true → (k : ℕ) → low ≤ k → k < low + n → test k ≡ true
list_all-range_with_len test low zero h k from below = absurd (omega arith)
list_all-range_with_len test low (suc n) h k from below = grind (arith, and_parts, list_all-range_with_len test (low + 1) n)

pub list_all-from_each : (test : ℕ → Bool) (low n : ℕ) → ((k : ℕ) → low ≤ k → k < low + n → test k ≡ true) → list_all test (range_with_len low n) ≡ true
list_all-from_each test low zero each = refl
list_all-from_each test low (suc n) each = grind (arith, and_from, list_all-from_each test (low + 1) n)

-- tests that pass together are the same
pub same_if : (a b : Bool) → (a ≡ true → b ≡ true) → (b ≡ true → a ≡ true) → a ≡ b
same_if a b f g = grind arith

-- the same isolates, one by one
pub is_level_with-each : (classes : List BidiClass) (p q : ℕ) → is_level_with classes p q ≡ true → (r : ℕ) → r < length classes → is_inside classes r p ≡ is_inside classes r q
unfolding is_level_with
is_level_with-each classes p q h r within = grind (arith, list_all-range_with_len (λ x. beq (is_inside classes x p) (is_inside classes x q)) 0 (length classes) h r)

-- two characters inside the same isolates are level with the same characters
pub is_level_with-same : (classes : List BidiClass) (c p q : ℕ) → ((r : ℕ) → is_inside classes r p ≡ is_inside classes r q) → is_level_with classes c p ≡ is_level_with classes c q
unfolding is_level_with
is_level_with-same classes c p q same = grind arith

pub is_level_with-refl : (classes : List BidiClass) (p : ℕ) → is_level_with classes p p ≡ true
unfolding is_level_with
is_level_with-refl classes p = grind (arith, list_all-from_each)
