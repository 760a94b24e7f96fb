-- Entries that are equal within each character: each that begins no character equals the one before it.
use Rattle.bidi_base.proofs.Common.{◌≡◌, ℕ, zero, suc, ◌+◌, ◌-◌, ◌<◌, ◌≤◌, Bool, true, false, nat_tests, List, [], ◌∷◌, ◌++◌, length, get_or, take, drop, replicate, refl, sym, ap, ◌∙◌, subst}
use Rattle.bidi_base.proofs.Common.{inl, inr, arith, cases_lt, nil_from_length, get_or_append_left, get_or-append_right, get_or-replicate, get_or-take, get_or-drop, ext_get_or, length-append}
use Rattle.bidi_base.proofs.Common.{length-replicate, length-take, length-drop, take-append-drop, sum_by-cons, text_len, per_unit, is_per_char, IsPerChar, is_boundary}
use Rattle.bidi_base.proofs.TextLemmas.{HasUnits}
use Rattle.bidi_base.proofs.UnitsLemmas.{IsSameTest, IsPerChar-from_is_per_char, is_per_char-from_IsPerChar}

pub boundary_zero : (len_of : ℕ → ℕ) (chars : List ℕ) → is_boundary len_of chars 0 ≡ true
boundary_zero len_of [] = refl
boundary_zero len_of (c ∷ cs) = refl

-- past the first character a boundary is one of the rest
boundary_rest : (len_of : ℕ → ℕ) (c : ℕ) (cs : List ℕ) (k : ℕ) → len_of c ≤ k → is_boundary len_of (c ∷ cs) k ≡ false → is_boundary len_of cs (k - len_of c) ≡ false
boundary_rest len_of c cs k past inside = grind (arith, nat_tests)

-- what lies within the first character is no boundary
inside_first : (len_of : ℕ → ℕ) (c : ℕ) (cs : List ℕ) (k : ℕ) → 0 < k → k < len_of c → is_boundary len_of (c ∷ cs) k ≡ false
inside_first len_of c cs k pos within = grind (arith, nat_tests)

inside_rest : (len_of : ℕ → ℕ) (c : ℕ) (cs : List ℕ) (k : ℕ) → 0 < len_of c → is_boundary len_of cs k ≡ false → is_boundary len_of (c ∷ cs) (len_of c + k) ≡ false
inside_rest len_of c cs k pos inside =
    let back : len_of c + k - len_of c ≡ k = omega arith in
    grind (arith, nat_tests)

module _ {X : Type 0} (d : X) (len_of : ℕ → ℕ) (h : HasUnits len_of) where
  -- each entry that begins no character equals the one before it
  abbrev pub IsEqualInside : List ℕ → List X → Type 0
  IsEqualInside chars us = (k : ℕ) → k < length us → is_boundary len_of chars k ≡ false → get_or us k d ≡ get_or us (k - 1) d

  equal_inside-per_unit : (chars : List ℕ) (values : List X) → length values ≡ length chars → IsEqualInside chars (per_unit len_of chars values)
  equal_inside-per_unit [] values long k within inside = absurd (omega arith)
  equal_inside-per_unit (c ∷ cs) [] long k within inside = absurd (omega arith)
  equal_inside-per_unit (c ∷ cs) (v ∷ vs) long k within inside =
      let n : ℕ = len_of c in
      let front : List X = replicate n v in
      let rest : List X = per_unit len_of cs vs in
      let size : length front ≡ n = length-replicate n v in
      elim (cases_lt k n) [
        | inl here ↦
            let at = λ (j : ℕ) (below : j < n). get_or_append_left front rest d j (omega (arith, size)) ∙ get_or-replicate n j v d below in
            at k here ∙ sym (at (k - 1) (omega arith))
        | inr past ↦
            let inside = boundary_rest len_of c cs k past inside in
            let later : 0 < k - n = positive cs (k - n) inside in
            let ends : length (front ++ rest) ≡ n + length rest = length-append front rest ∙ ap (λ x. x + length rest) size in
            let before : k - 1 - n ≡ k - n - 1 = omega arith in
            get_or-append_right front rest n k d size past
            ∙ equal_inside-per_unit cs vs (omega arith) (k - n) (omega (arith, ends)) inside
            ∙ ap (λ j. get_or rest j d) (sym before)
            ∙ sym (get_or-append_right front rest n (k - 1) d size (omega arith))
      ]
    where
      positive : (cs : List ℕ) (j : ℕ) → is_boundary len_of cs j ≡ false → 0 < j
      positive cs zero inside = absurd (cc (inside, boundary_zero len_of cs))
      positive cs (suc j) inside = omega arith

  -- entries that each equal the one before are those of the first
  from_first : (us : List X) (n : ℕ) → ((j : ℕ) → 0 < j → j < n → get_or us j d ≡ get_or us (j - 1) d) → (j : ℕ) → j < n → get_or us j d ≡ get_or us 0 d
  from_first us n steps zero below = refl
  from_first us n steps (suc j) below =
      let back : suc j - 1 ≡ j = omega arith in
      steps (suc j) (omega arith) below ∙ ap (λ i. get_or us i d) back ∙ from_first us n steps j (omega arith)

  values_of : (chars : List ℕ) (us : List X) → length us ≡ text_len len_of chars → IsEqualInside chars us → IsPerChar len_of chars us
  values_of [] us long equal_inside = ([], refl, nil_from_length us long)
  values_of (c ∷ cs) us long equal_inside =
      let n : ℕ = len_of c in
      let pos : 0 < n = h c in
      let v : X = get_or us 0 d in
      let whole : length us ≡ n + text_len len_of cs = long ∙ sum_by-cons len_of c cs in
      let same = from_first us n (λ j some below. equal_inside j (omega arith) (inside_first len_of c cs j some below)) in
      let size : length (take n us) ≡ n = omega (arith, length-take n us) in
      let front : take n us ≡ replicate n v =
      ext_get_or d (take n us) (replicate n v) (size ∙ sym (length-replicate n v)) (λ j below.
      let less : j < n = omega arith in
      get_or-take n us j d less ∙ same j less ∙ sym (get_or-replicate n j v d less)) in
      let rest : IsPerChar len_of cs (drop n us) = values_of cs (drop n us) (omega (arith, length-drop n us)) (λ k below inside.
      let later : 0 < k = positive cs k inside in
      let before : n + k - 1 ≡ n + (k - 1) = omega arith in
      get_or-drop n us k d
      ∙ equal_inside (n + k) (omega (arith, length-drop n us)) (inside_rest len_of c cs k pos inside)
      ∙ ap (λ j. get_or us j d) before
      ∙ sym (get_or-drop n us (k - 1) d)) in
      (v ∷ rest.0, omega (arith, rest.1), grind (arith, take-append-drop n us, front, rest.2))
    where
      positive : (cs : List ℕ) (j : ℕ) → is_boundary len_of cs j ≡ false → 0 < j
      positive cs zero inside = absurd (cc (inside, boundary_zero len_of cs))
      positive cs (suc j) inside = omega arith

  module _ (eq : X → X → Bool) (test : IsSameTest eq) (chars : List ℕ) (us : List X) where
    pub equal_inside_from_test : is_per_char eq len_of chars us ≡ true → IsEqualInside chars us
    equal_inside_from_test e =
        let w = IsPerChar-from_is_per_char eq test len_of h chars us e in
        subst (λ vs. IsEqualInside chars vs) (sym w.2) (equal_inside-per_unit chars w.0 w.1)

    pub test_from_equal_inside : length us ≡ text_len len_of chars → IsEqualInside chars us → is_per_char eq len_of chars us ≡ true
    test_from_equal_inside long equal_inside = is_per_char-from_IsPerChar eq test len_of chars us (values_of chars us long equal_inside)
