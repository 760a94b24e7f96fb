-- The walk over units gives what W2 to W7 give the characters, repeated.
use Rattle.bidi_base.proofs.Common.{◌≡◌, ℕ, zero, suc, ◌+◌, ◌-◌, ◌<◌, ◌≤◌, Bool, true, false, List, [], ◌∷◌, ◌++◌, length, map, get_or, replicate, refl, sym, ap}
use Rattle.bidi_base.proofs.Common.{◌∙◌, arith, inl, inr, append-nil, append_assoc, length-append, All, range_with_len, cases_Bool, replicate-append-replicate}
use Rattle.bidi_base.proofs.Common.{sum_by-append, sum_by-cons, All-head, All-tail, is_l, at_indexes, class_at, unit_index, per_unit, text_len}
use Rattle.bidi_base.specs.declared.char_data.BidiClass.{BidiClass}
use Rattle.bidi_base.specs.declared.char_data.BidiClass.TheVariants.{L, ET, ON}
use Rattle.bidi_laws.proofs.RepeatedPlaces.{AreIndexes, units_of_chars}
use Rattle.bidi_base.proofs.TextLemmas.{HasUnits}
use Rattle.bidi_rules.specs.declared.weak.before.Before.{Before}
use Rattle.bidi_rules.specs.declared.weak.before.Before.TheVariants.{Other, Terminators}
use Rattle.bidi_rules.specs.WeakPass.{strengthened, strong_up_to, after_w3, waits, joins, next_before, waiting_becomes, resolved, w7_by, is_after_l, after_w7, left_over, is_number, still_to_come, walked}
use Rattle.bidi_rules.proofs.WeakPassLemmas.{replicate-onto}

-- reading a second unit of a class that need not wait changes nothing
record IsRepeating (c strong : BidiClass) (before : Before) : Type 0 where
  now : strong_up_to (strong_up_to strong c) c ≡ strong_up_to strong c
  apart : joins (strengthened (strong_up_to strong c) c) (next_before (strengthened strong c) before) ≡ false
  next : next_before (strengthened (strong_up_to strong c) c) (next_before (strengthened strong c) before) ≡ next_before (strengthened strong c) before
  own : w7_by (is_l (strong_up_to strong c)) (resolved (strengthened (strong_up_to strong c) c) (next_before (strengthened strong c) before)) ≡ w7_by (is_l strong) (resolved (strengthened strong c) before)

module _ (class : ℕ → BidiClass) (len : ℕ → ℕ) where
  -- the rest of a separator
  skipped : (strong : BidiClass) (before : Before) (m n a : ℕ) (us : List ℕ) → walked class len strong before m n (range_with_len a m ++ us) ≡ walked class len strong before 0 (n + m) us
  skipped strong before zero n a us = grind arith
  skipped strong before (suc m) n a us = let more : n + suc m ≡ suc n + m = omega arith in simp more (skipped strong before m (suc n) (a + 1) us)

  -- terminators that join those that wait
  joined : (strong : BidiClass) (m n a : ℕ) (us : List ℕ) → ((k : ℕ) → a ≤ k → k < a + m → class k ≡ ET)
      → walked class len strong Terminators 0 n (range_with_len a m ++ us) ≡ walked class len strong Terminators 0 (n + m) us
  joined strong zero n a us each = grind arith
  joined strong (suc m) n a us each = grind (arith, each a, joined strong m (suc n) (a + 1) us)

  held_rest : (strong : BidiClass) (next : Before) (m a : ℕ) (us : List ℕ) → waits next ≡ true → (next ≡ Terminators → (k : ℕ) → a ≤ k → k < a + m → class k ≡ ET)
      → walked class len strong next (still_to_come next (suc m)) 1 (range_with_len a m ++ us) ≡ walked class len strong next 0 (suc m) us
  held_rest strong next m a us h each = grind (arith, joined, skipped)

  -- units of one class, one after another
  module _ (strong c : BidiClass) (before : Before) where
    abbrev z : BidiClass
    z = strengthened strong c

    abbrev next : Before
    next = next_before z before

    abbrev now : BidiClass
    now = strong_up_to strong c

    abbrev own : BidiClass
    own = w7_by (is_l strong) (resolved z before)

    pub row-joins : (m n a : ℕ) (us : List ℕ) → ((k : ℕ) → a ≤ k → k < a + m → class k ≡ c) → joins z before ≡ true
        → walked class len strong before 0 n (range_with_len a m ++ us) ≡ walked class len now next 0 (n + m) us
    row-joins m n a us each h = grind (arith, joined)

    decided : IsRepeating c strong before → waits next ≡ false → (m a : ℕ) (us : List ℕ) → ((k : ℕ) → a ≤ k → k < a + m → class k ≡ c)
        → walked class len now next 0 0 (range_with_len a m ++ us) ≡ replicate m own ++ walked class len now next 0 0 us
    decided s free zero a us each = refl
    decided s free (suc m) a us each = grind (arith, s, each a, decided s free m (a + 1) us)

    pub row-waits : (m n a : ℕ) (us : List ℕ) → ((k : ℕ) → a ≤ k → k < a + suc m → class k ≡ c) → joins z before ≡ false → waits next ≡ true → still_to_come next (len a) ≡ still_to_come next (suc m)
        → walked class len strong before 0 n (range_with_len a (suc m) ++ us) ≡ replicate n (w7_by (is_l strong) (waiting_becomes z before)) ++ walked class len now next 0 (suc m) us
    row-waits m n a us each apart wait count = grind (arith, held_rest)

    pub row-decides : (m n a : ℕ) (us : List ℕ) → ((k : ℕ) → a ≤ k → k < a + suc m → class k ≡ c) → joins z before ≡ false → waits next ≡ false
        → walked class len strong before 0 n (range_with_len a (suc m) ++ us) ≡ replicate n (w7_by (is_l strong) (waiting_becomes z before)) ++ (replicate (suc m) own ++ walked class len now next 0 0 us)
    row-decides m n a us each apart free = grind (arith, decided)

-- ---- where no number stands, each class changes by itself

abbrev is_idle : Before → Bool
is_idle Other = true
is_idle Terminators = true
is_idle _ = false

record IsPlain (c strong : BidiClass) (before : Before) : Type 0 where
  next : is_idle (next_before (strengthened strong c) before) ≡ true
  none : (n : ℕ) → still_to_come (next_before (strengthened strong c) before) n ≡ 0
  held : w7_by (is_l strong) (waiting_becomes (strengthened strong c) before) ≡ ON
  joined : joins (strengthened strong c) before ≡ true → left_over c ≡ ON
  waiting : waits (next_before (strengthened strong c) before) ≡ true → left_over c ≡ ON
  own : waits (next_before (strengthened strong c) before) ≡ false → w7_by (is_l strong) (resolved (strengthened strong c) before) ≡ left_over c

is_plain : (c strong : BidiClass) (before : Before) → is_number c ≡ false → is_idle before ≡ true → IsPlain c strong before
is_plain c strong before h idle = grind arith

pub walked-plain : (classes : List BidiClass) (len : ℕ → ℕ) (us : List ℕ) → All (λ u. is_number (class_at classes u) ≡ false) us
    → (strong : BidiClass) (before : Before) (n : ℕ) → is_idle before ≡ true
    → walked (class_at classes) len strong before 0 n us ≡ replicate n ON ++ map left_over (at_indexes L classes us)
walked-plain classes len [] none strong before n idle = sym (append-nil (replicate n ON))
walked-plain classes len (u ∷ us) none strong before n idle =
    let c = class_at classes u in
    let p = is_plain c strong before (All-head (λ u. is_number (class_at classes u) ≡ false) u us none) idle in
    let later = walked-plain classes len us (All-tail (λ u. is_number (class_at classes u) ≡ false) u us none)
    (strong_up_to strong c) (next_before (strengthened strong c) before) in
    elim (cases_Bool (joins (strengthened strong c) before)) [
      | inl joins' ↦ rw (
        joins',
        p.joined joins',
      ) (later (suc n) p.next ∙ sym (replicate-onto ON n (map left_over (at_indexes L classes us))))
      | inr apart ↦ grind arith
    ]

-- ---- over the characters

left-next : (strong c : BidiClass) → is_after_l (is_l strong) (strengthened strong c) ≡ is_l (strong_up_to strong c)
left-next strong c = grind arith

-- what waits in front of the others
per_unit-held : (len_of : ℕ → ℕ) (held cs : List ℕ) (v : BidiClass) (xs : List BidiClass)
    → per_unit len_of (held ++ cs) (replicate (length held) v ++ xs) ≡ replicate (text_len len_of held) v ++ per_unit len_of cs xs
per_unit-held len_of [] cs v xs = refl
per_unit-held len_of (c ∷ held) cs v xs =
    simp (per_unit-held len_of held cs v xs, sum_by-cons len_of c held, ← replicate-append-replicate (len_of c) (text_len len_of held) v, append_assoc)

module _ (len_of : ℕ → ℕ) (h : HasUnits len_of) (chars : List ℕ) (classes : List BidiClass) (len : ℕ → ℕ)
    (alike : (k j : ℕ) → k < length chars → j < len_of (get_or chars k 0) → class_at classes (unit_index len_of chars k + j) ≡ class_at classes (unit_index len_of chars k))
    (long : (k : ℕ) → k < length chars → len (unit_index len_of chars k) ≡ len_of (get_or chars k 0)) where
  -- the characters in `held` wait
  pub walked-chars : (ks : List ℕ) → AreIndexes chars ks → (held : List ℕ) (strong : BidiClass) (before : Before)
      → walked (class_at classes) len strong before 0 (text_len len_of held) (units_of_chars len_of chars ks)
      ≡ per_unit len_of (held ++ at_indexes 0 chars ks) (after_w7 (is_l strong) before (length held) (after_w3 strong (at_indexes L classes (map (unit_index len_of chars) ks))))
  walked-chars [] are held strong before =
      simp append-nil (simp append-nil at (sym (per_unit-held len_of held [] ON [])))
  walked-chars (k ∷ ks) are held strong before =
      let fits = All-head (λ (i : ℕ). i < length chars) k ks are in
      let rest = All-tail (λ (i : ℕ). i < length chars) k ks are in
      let a = unit_index len_of chars k in
      let char = get_or chars k 0 in
      let m = len_of char - 1 in
      let size : len_of char ≡ suc m = omega (arith, h char) in
      let us = units_of_chars len_of chars ks in
      let cs = at_indexes 0 chars ks in
      let n = text_len len_of held in
      let c = class_at classes a in
      let z = strengthened strong c in
      let next = next_before z before in
      let now = strong_up_to strong c in
      let own = w7_by (is_l strong) (resolved z before) in
      let v = w7_by (is_l strong) (waiting_becomes z before) in
      let zs = after_w3 now (at_indexes L classes (map (unit_index len_of chars) ks)) in
      let left = left-next strong c in
      let each : (u : ℕ) → a ≤ u → u < a + suc m → class_at classes u ≡ c =
      λ u from below. let at : u ≡ a + (u - a) = omega arith in ap (class_at classes) at ∙ alike k (u - a) fits (omega arith) in
      let start : walked (class_at classes) len strong before 0 n (range_with_len a (len_of char) ++ us) ≡ walked (class_at classes) len strong before 0 n (range_with_len a (suc m) ++ us) =
      grind arith in
      let one : text_len len_of (char ∷ []) ≡ suc m = omega (arith, sum_by-cons len_of char []) in
      start ∙ elim (cases_Bool (joins z before)) [
        | inl joins' ↦
            let more : text_len len_of (held ++ char ∷ []) ≡ n + suc m = simp (sum_by-append len_of held (char ∷ []), one) in
            let many : length (held ++ char ∷ []) ≡ suc (length held) = omega (arith, length-append held (char ∷ [])) in
            row-joins (class_at classes) len strong c before (suc m) n a us each joins' ∙ simp (← more, walked-chars ks rest (held ++ char ∷ []) now next, joins', left, many, append_assoc)
        | inr apart ↦ elim (cases_Bool (waits next)) [
          | inl wait ↦
              row-waits (class_at classes) len strong c before m n a us each apart wait (ap (still_to_come next) (long k fits ∙ size))
              ∙ simp (← one, walked-chars ks rest (char ∷ []) now next, apart, wait, left) (sym (per_unit-held len_of held (char ∷ cs) v (after_w7 (is_l now) next 1 zs)))
          | inr free ↦
              row-decides (class_at classes) len strong c before m n a us each apart free
              ∙ ap (λ (l : ℕ). replicate n v ++ (replicate l own ++ walked (class_at classes) len now next 0 0 us)) (sym size)
              ∙ simp (walked-chars ks rest [] now next, apart, free, left) (sym (per_unit-held len_of held (char ∷ cs) v (own ∷ after_w7 (is_l now) next 0 zs)))
        ]
      ]
