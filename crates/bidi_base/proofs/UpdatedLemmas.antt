-- Lists of which some entries were updated: one entry more, the end of a loop, and the same entries by another test.
use Rattle.bidi_base.proofs.Common.{◌≡◌, ◌≢◌, ℕ, ◌+◌, ◌<◌, ◌≤◌, Bool, true, false, List, length, get_or, set, refl, sym, ap, subst, ◌∙◌, arith, inl, inr, cases_lt, cases_eq, both_ways}
use Rattle.bidi_base.proofs.Common.{get_or-set_same, get_or-set_other, get_or_past, length-set}
use Rattle.bidi_base.specs.Updated.{IsUpdated}

-- below a range, in it, or past it
pub by_range : {A : Type 0} (k from to : ℕ) → (k < from → A) → (from ≤ k → k < to → A) → (to ≤ k → A) → A
by_range k from to below within past = elim (cases_lt k from) [
  | inl low ↦ below low
  | inr high ↦ elim (cases_lt k to) [ inl less ↦ within high less | inr more ↦ past more ]
]

module _ {X : Type 0} (none : X) (test : ℕ → Bool) (update : X → X) (from : ℕ) (old : List X) where
  -- no entry
  pub IsUpdated-none : (to : ℕ) → to ≤ from → IsUpdated none test update from to old old
  IsUpdated-none to empty = record {
    inside = λ k a b t. absurd (omega arith);
    failing = λ k t. refl;
    below = λ k a. refl;
    above = λ k a. refl;
    same_len = refl;
  }

  -- one entry more, which fails the test
  pub IsUpdated-skip : (i : ℕ) (now : List X) → test i ≡ false → IsUpdated none test update from i old now → IsUpdated none test update from (i + 1) old now
  IsUpdated-skip i now fails h = record {
    inside = λ k a b t. elim (cases_eq k i) [
      | inl same ↦ absurd (both_ways (test i) fails (subst (λ (j : ℕ). test j ≡ true) same t))
      | inr other ↦ h.inside k a (omega arith) t
    ];
    failing = h.failing;
    below = h.below;
    above = λ k a. h.above k (omega arith);
    same_len = h.same_len;
  }

  -- one entry more, which passes it
  pub IsUpdated-more : (i : ℕ) (now new : List X) → from ≤ i → test i ≡ true → get_or new i none ≡ update (get_or now i none)
      → ((k : ℕ) → k ≢ i → get_or new k none ≡ get_or now k none) → length new ≡ length now
      → IsUpdated none test update from i old now → IsUpdated none test update from (i + 1) old new
  IsUpdated-more i now new begun passes is others long h = record {
    inside = λ k a b t. elim (cases_eq k i) [
      | inl same ↦ subst (λ (j : ℕ). get_or new j none ≡ update (get_or old j none)) (sym same) (is ∙ ap update (h.above i (omega arith)))
      | inr other ↦ others k other ∙ h.inside k a (omega arith) t
    ];
    failing = λ k t. others k (λ same. both_ways (test i) (subst (λ (j : ℕ). test j ≡ false) same t) passes) ∙ h.failing k t;
    below = λ k a. others k (omega arith) ∙ h.below k a;
    above = λ k a. others k (omega arith) ∙ h.above k (omega arith);
    same_len = long ∙ h.same_len;
  }

  pub IsUpdated-set : (i : ℕ) (now : List X) (x : X) → from ≤ i → i < length old → test i ≡ true → x ≡ update (get_or now i none)
      → IsUpdated none test update from i old now → IsUpdated none test update from (i + 1) old (set now i x)
  IsUpdated-set i now x begun fits passes is h =
      IsUpdated-more i now (set now i x) begun passes (get_or-set_same now i x none (omega (arith, h.same_len)) ∙ is)
      (λ k other. get_or-set_other now i k x none other) (length-set now i x) h

  -- the end of a loop from `from` to `to`
  pub IsUpdated-end : (i to : ℕ) (now : List X) → (from ≤ to → i ≤ to) → to ≤ i → (to ≤ from → now ≡ old)
      → IsUpdated none test update from i old now → IsUpdated none test update from to old now
  IsUpdated-end i to now within past untouched h = elim (cases_lt from to) [
    | inl some ↦ let top : i ≡ to = omega (arith, within (omega arith)) in subst (λ (j : ℕ). IsUpdated none test update from j old now) top h
    | inr empty ↦ subst (λ (xs : List X). IsUpdated none test update from to old xs) (sym (untouched empty)) (IsUpdated-none to empty)
  ]

  -- the same entries by another test
  pub IsUpdated-same_test : (other : ℕ → Bool) (to : ℕ) (now : List X) → ((k : ℕ) → from ≤ k → k < to → test k ≡ other k)
      → IsUpdated none test update from to old now → IsUpdated none other update from to old now
  IsUpdated-same_test other to now same h = record {
    inside = λ k a b t. h.inside k a b (same k a b ∙ t);
    failing = λ k t. by_range k from to (h.below k) (λ high within. h.failing k (same k high within ∙ t)) (h.above k);
    below = h.below;
    above = h.above;
    same_len = h.same_len;
  }

-- each entry that passes the test, also past the end
pub IsUpdated-passing : {X : Type 0} (none : X) (test : ℕ → Bool) (update : X → X) (old new : List X) → update none ≡ none
    → IsUpdated none test update 0 (length old) old new → (k : ℕ) → test k ≡ true → get_or new k none ≡ update (get_or old k none)
IsUpdated-passing none test update old new keeps h k t = elim (cases_lt k (length old)) [
  | inl within ↦ h.inside k (omega arith) within t
  | inr past ↦ h.above k past ∙ (get_or_past old k none past ∙ sym (ap update (get_or_past old k none past) ∙ keeps))
]
