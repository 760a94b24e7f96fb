-- What the test `is_per_char` says of entries that go with units.
use Rattle.bidi_base.proofs.Common.{◌≡◌, ℕ, zero, suc, ◌<◌, ◌≤◌, Bool, true, false, nat_le, List, [], ◌∷◌, length, take, drop, refl, ap, ◌∙◌, arith, length-append, length-take, common_steps}
use Rattle.bidi_base.proofs.Common.{nil_from_length, take-append-drop, length-replicate, nat_tests, list_all, text_len, per_unit, per_char, is_per_char, IsPerChar, and_parts, replicate}
use Rattle.bidi_base.specs.Text.{all_same}
use Rattle.bidi_base.proofs.TextLemmas.{HasUnits, zero_test}
use Rattle.bidi_base.proofs.PerUnit.{length-per_unit, per_char-per_unit}

-- ---- steps of `is_per_char`, where c is the first of the characters ds
module _ {X : Type 0} (eq : X → X → Bool) (len_of : ℕ → ℕ) (ds cs : List ℕ) (c : ℕ) (units : List X) (first : ds ≡ c ∷ cs) where
  pub step_short : length units < len_of c → is_per_char eq len_of ds units ≡ false
  step_short h = grind arith

  pub step_unequal : all_same eq (take (len_of c) units) ≡ false → is_per_char eq len_of ds units ≡ false
  step_unequal e = grind arith

  pub step_on : len_of c ≤ length units → all_same eq (take (len_of c) units) ≡ true → is_per_char eq len_of ds units ≡ is_per_char eq len_of cs (drop (len_of c) units)
  step_on h e = grind arith

-- ---- units that are those of some values

pub per_unit-from_IsPerChar : {X : Type 0} (d : X) (len_of : ℕ → ℕ) → HasUnits len_of → (chars : List ℕ) (units : List X)
    → IsPerChar len_of chars units → units ≡ per_unit len_of chars (per_char d len_of chars units)
per_unit-from_IsPerChar d len_of h chars units w = grind (arith, per_char-per_unit len_of h d chars w.0 w.1)

pub length-from_IsPerChar : {X : Type 0} (len_of : ℕ → ℕ) (chars : List ℕ) (units : List X) → IsPerChar len_of chars units → length units ≡ text_len len_of chars
length-from_IsPerChar len_of chars units w = ap length w.2 ∙ length-per_unit len_of chars w.0 w.1

-- ---- where the test `eq` tells entries apart

-- equal by the test is the same, and each entry equals itself
pub record IsSameTest {X : Type 0} (eq : X → X → Bool) : Type 0 where
  pub same : (x y : X) → eq x y ≡ true → x ≡ y
  pub self : (x : X) → eq x x ≡ true

module _ {X : Type 0} (eq : X → X → Bool) (test : IsSameTest eq) where
  replicate_from_all : (y : X) (xs : List X) → list_all (λ x. eq x y) xs ≡ true → xs ≡ replicate (length xs) y
  replicate_from_all y [] e = refl
  replicate_from_all y (x ∷ xs) e = grind (arith, and_parts, replicate_from_all y xs)

  one_value : (n : ℕ) (units : List X) → 1 ≤ n → n ≤ length units → all_same eq (take n units) ≡ true → (v : X) × (take n units ≡ replicate n v)
  one_value zero units pos le e = absurd (omega arith)
  one_value (suc n) [] pos le e = absurd (omega arith)
  one_value (suc n) (v ∷ units) pos le e =
      (v, grind (arith, replicate_from_all v (v ∷ take n units), length-take n units))

  -- the units are those of some values
  pub IsPerChar-from_is_per_char : (len_of : ℕ → ℕ) → HasUnits len_of → (chars : List ℕ) (units : List X) → is_per_char eq len_of chars units ≡ true → IsPerChar len_of chars units
  IsPerChar-from_is_per_char len_of h [] units e = ([], refl, nil_from_length units (zero_test (length units) e))
  IsPerChar-from_is_per_char len_of h (c ∷ chars) units e = let w = and_parts (nat_le (len_of c) (length units)) _ e in
      let v = and_parts _ _ w.1 in
      let first = one_value (len_of c) units (h c) (grind (arith, nat_tests)) v.0 in
      let rest = IsPerChar-from_is_per_char len_of h chars (drop (len_of c) units) v.1 in
      (first.0 ∷ rest.0, ap suc rest.1, grind (arith, take-append-drop (len_of c) units, first.1, rest.2))

  all_same-replicate : (n : ℕ) (x : X) → all_same eq (replicate n x) ≡ true
  all_same-replicate zero x = refl
  all_same-replicate (suc n) x = all (suc n)
    where
      all : (n : ℕ) → list_all (λ y. eq y x) (replicate n x) ≡ true
      all zero = refl
      all (suc n) = grind (arith, test.self x, all n)

  pub is_per_char-per_unit : (len_of : ℕ → ℕ) (chars : List ℕ) (values : List X) → length values ≡ length chars → is_per_char eq len_of chars (per_unit len_of chars values) ≡ true
  is_per_char-per_unit len_of [] values long = refl
  is_per_char-per_unit len_of (c ∷ chars) [] long = absurd (omega arith)
  is_per_char-per_unit len_of (c ∷ chars) (v ∷ values) long =
      grind (
        arith,
        is_per_char-per_unit len_of chars values,
        length-append,
        length-replicate,
        all_same-replicate,
        common_steps,
        nat_tests,
      )

  pub is_per_char-from_IsPerChar : (len_of : ℕ → ℕ) (chars : List ℕ) (units : List X) → IsPerChar len_of chars units → is_per_char eq len_of chars units ≡ true
  is_per_char-from_IsPerChar len_of chars units w = grind (arith, is_per_char-per_unit)

  pub per_unit-from_is_per_char : (d : X) (len_of : ℕ → ℕ) → HasUnits len_of → (chars : List ℕ) (units : List X)
      → is_per_char eq len_of chars units ≡ true → units ≡ per_unit len_of chars (per_char d len_of chars units)
  per_unit-from_is_per_char d len_of h chars units e = per_unit-from_IsPerChar d len_of h chars units (IsPerChar-from_is_per_char len_of h chars units e)

  pub length-from_is_per_char : (len_of : ℕ → ℕ) → HasUnits len_of → (chars : List ℕ) (units : List X) → is_per_char eq len_of chars units ≡ true → length units ≡ text_len len_of chars
  length-from_is_per_char len_of h chars units e = length-from_IsPerChar len_of chars units (IsPerChar-from_is_per_char len_of h chars units e)
