-- The level runs of a paragraph, one after another, each by the characters that X9 keeps in it.
use Rattle.bidi_base.proofs.Common.{◌≡◌, ℕ, zero, suc, ◌+◌, ◌-◌, ◌<◌, ◌≤◌, Bool, true, false, List, [], ◌∷◌, ◌++◌, length, get_or, refl, sym, ap, ◌∙◌, arith, add-one, append-nil, inl, inr, filter}
use Rattle.bidi_base.proofs.Common.{range_with_len, cases_Bool, cases_eq, cases_lt, both_ways, get_or_push, flat_map-append, first_or, last_or, is_kept_at, kept_indexes, kept_before, next_kept}
use Rattle.bidi_base.proofs.Common.{have_one_level, begins_run, run_starts, flat_map}
use Rattle.bidi_base.specs.declared.char_data.BidiClass.{BidiClass}
use Rattle.bidi_base.proofs.Lists.{cases_Option}
use Rattle.bidi_base.proofs.PlacesLemmas.{range_with_len-more}
use Rattle.bidi_laws.proofs.PassLemmas.{kept_more}
use Rattle.bidi_laws.proofs.ReadStack.{Member}
use Rattle.bidi_laws.proofs.RunsLemmas.{BeginsRun, EndsRun, IsLevelRun, IsRun, IsRun-IsLevelRun, IsFront, front_of}
use Rattle.bidi_laws.proofs.SuccessorLemmas.{kept_before-None}
use Rattle.bidi_laws.proofs.WaitingLemmas.{inside_run}
use Rattle.bidi_explicit.proofs.LevelRunLemmas.{IsLevelRun-at}
use Rattle.bidi_explicit.proofs.RunUnits.{cuts}

-- a number of a range that passes a test is one of those that do
pub Member-filter : (test : ℕ → Bool) (x low n : ℕ) → low ≤ x → x < low + n → test x ≡ true → Member x (filter test (range_with_len low n))
Member-filter test x low zero from below passes = absurd (omega arith)
Member-filter test x low (suc n) from below passes = grind (
  arith,
  cases_eq x low,
  cases_Bool (test low),
  Member-filter test x (low + 1) n,
)

Member-some : (x : ℕ) (xs : List ℕ) → Member x xs → 0 < length xs
Member-some x [] member = absurd member
Member-some x (y ∷ xs) member = omega arith

-- the last number of a range that passes a test
record IsLastOf (test : ℕ → Bool) (low high first last : ℕ) : Type 0 where
  from : first ≤ last
  below : last < high
  passes : test last ≡ true

last_of : (test : ℕ → Bool) (low n p : ℕ) (ps : List ℕ) → filter test (range_with_len low n) ≡ p ∷ ps → (low ≤ p) × IsLastOf test low (low + n) p (last_or p ps)
last_of test low zero p ps e = absurd (cc e)
last_of test low (suc n) p [] e = grind (arith, cases_Bool (test low), last_of test (low + 1) n p [])
last_of test low (suc n) p (q ∷ ps) e =
    grind (arith, cases_Bool (test low), last_of test (low + 1) n p (q ∷ ps), last_of test (low + 1) n q ps)

split : (xs : List ℕ) → 0 < length xs → (rest : List ℕ) × (xs ≡ first_or 0 xs ∷ rest)
split [] some = absurd (omega arith)
split (x ∷ xs) some = (xs, refl)

module _ (classes : List BidiClass) (levels : List ℕ) where
  -- how many level runs there are, and where one begins
  abbrev pub count : ℕ
  count = length (run_starts classes levels)

  abbrev pub cut : ℕ → ℕ
  cut k = get_or (cuts classes levels) k 0

  -- the kept characters of a run, the first of them and the last
  abbrev pub members : ℕ → List ℕ
  members k = filter (is_kept_at classes) (range_with_len (cut k) (cut (k + 1) - cut k))

  abbrev pub head : ℕ → ℕ
  head k = first_or 0 (members k)

  abbrev pub back : ℕ → ℕ
  back k = last_or 0 (members k)

  pub level_run : (k : ℕ) → k < count → IsLevelRun classes levels (cut k) (cut (k + 1))
  level_run k within = rw (add-one k) (IsLevelRun-at classes levels k within)

  pub cut-zero : cut 0 ≡ 0
  unfolding run_starts
  cut-zero = grind arith

  pub cut-count : cut count ≡ length classes
  cut-count = grind (arith, get_or_push)

  -- a run with a kept character
  pub record IsWhole (k : ℕ) : Type 0 where
    pub rest : List ℕ
    pub here : members k ≡ head k ∷ rest
    pub run : IsRun classes levels (head k) rest
    pub final : back k ≡ last_or (head k) rest
    pub from : cut k ≤ head k
    pub order : head k ≤ back k
    pub below : back k < cut (k + 1)
    pub back_kept : is_kept_at classes (back k) ≡ true
    pub back_within : back k < length classes
    pub none : (m : ℕ) → cut k ≤ m → m < head k → is_kept_at classes m ≡ false

  pub whole_run : (k : ℕ) → k < count → 0 < length (members k) → IsWhole k
  whole_run k within some =
      let run = level_run k within in
      let e = split (members k) some in
      let sum : cut k + (cut (k + 1) - cut k) ≡ cut (k + 1) = omega (arith, run.not_empty) in
      let w = last_of (is_kept_at classes) (cut k) (cut (k + 1) - cut k) (head k) e.0 e.1 in
      let f : IsFront classes levels (cut k) (cut (k + 1)) (head k) e.0 = simp sum at (front_of classes levels (cut k) (cut (k + 1) - cut k) (head k) e.0 e.1) in
      let final : back k ≡ last_or (head k) e.0 = ap (last_or 0) e.1 in
      record {
        rest = e.0;
        here = e.1;
        run = IsRun-IsLevelRun classes levels (cut k) (cut (k + 1)) (head k) e.0 run e.1;
        final = final;
        from = w.0;
        order = omega (arith, final, w.1.from);
        below = omega (arith, final, w.1.below, sum);
        back_kept = ap (is_kept_at classes) final ∙ w.1.passes;
        back_within = omega (arith, final, w.1.below, sum, run.within);
        none = f.none;
      }

  -- a later run begins after an earlier one
  pub below_cut : (j k : ℕ) → j < k → k ≤ count → cut (j + 1) ≤ cut k
  below_cut j zero order within = absurd (omega arith)
  below_cut j (suc k) order within =
      grind (arith, cases_eq j k, below_cut j k, level_run k, add-one k)

  pub apart : (j k : ℕ) → j < k → k < count → IsWhole j → IsWhole k → back j < head k
  apart j k order within w v = omega (arith, w.below, v.from, below_cut j k order (omega arith))

  pub same_run : (j k : ℕ) → j < count → k < count → IsWhole j → IsWhole k → back j ≡ back k → j ≡ k
  same_run j k low high w v same = elim (cases_lt j k) [
    | inl less ↦ absurd (omega (arith, same, v.order, apart j k less high w v))
    | inr not_less ↦ elim (cases_lt k j) [
      | inl more ↦ absurd (omega (arith, same, w.order, apart k j more low v w))
      | inr not_more ↦ omega arith
    ]
  ]

  -- the kept characters of the first k runs
  members_to : (k : ℕ) → k ≤ count → filter (is_kept_at classes) (range_with_len 0 (cut k)) ≡ flat_map members (range_with_len 0 k)
  members_to zero within = ap (λ m. filter (is_kept_at classes) (range_with_len 0 m)) cut-zero
  members_to (suc k) within =
      let run = level_run k (omega arith) in
      let sum : cut (suc k) ≡ cut k + (cut (k + 1) - cut k) = grind (arith, run.not_empty, add-one k) in
      let more : range_with_len 0 (suc k) ≡ range_with_len 0 k ++ k ∷ [] = grind (arith, range_with_len-more 0 k) in
      ap (λ m. filter (is_kept_at classes) (range_with_len 0 m)) sum
      ∙ kept_more classes levels (cut k) (cut (k + 1) - cut k) (members k) refl
      ∙ ap {B = List ℕ} (λ xs. xs ++ members k) (members_to k (omega arith))
      ∙ sym (ap (flat_map members) more ∙ flat_map-append members (range_with_len 0 k) (k ∷ []) ∙ ap {B = List ℕ} (λ ys. flat_map members (range_with_len 0 k) ++ ys) (append-nil (members k)))

  pub kept_indexes-members : kept_indexes classes ≡ flat_map members (range_with_len 0 count)
  unfolding kept_indexes
  kept_indexes-members = rw (← cut-count) (members_to count (omega arith))

  -- the run of a character
  pub run_of : (k q : ℕ) → k ≤ count → q < cut k → is_kept_at classes q ≡ true → (j : ℕ) × (j < k) × IsWhole j × Member q (members j) × (cut j ≤ q) × (q < cut (j + 1))
  run_of zero q within below kept = absurd (omega (arith, cut-zero))
  run_of (suc k) q within below kept = elim (cases_lt q (cut k)) [
    | inl earlier ↦
        let r = run_of k q (omega arith) earlier kept in (r.0, omega (arith, r.1), r.2, r.3, r.4, r.5)
    | inr here ↦
        let run = level_run k (omega arith) in
        let end : q < cut (k + 1) = rw (add-one k) below in
        let member : Member q (members k) = Member-filter (is_kept_at classes) q (cut k) (cut (k + 1) - cut k) here (omega (arith, run.not_empty)) kept in
        (k, omega arith, whole_run k (omega arith) (Member-some q (members k) member), member, here, end)
  ]

  -- a character that begins a run is the first of one
  pub begun_in : (q : ℕ) → q < length classes → is_kept_at classes q ≡ true → BeginsRun classes levels q → (j : ℕ) × (j < count) × (head j ≡ q)
  unfolding begins_run
  begun_in q within kept begins =
      let r = run_of count q (omega arith) (omega (arith, cut-count)) kept in
      let run = level_run r.0 r.1 in (
        r.0,
        r.1,
        elim (cases_lt (head r.0) q) [
          | inl after ↦ elim (cases_Option (kept_before classes q)) [
            | inl e ↦ absurd (both_ways (is_kept_at classes (head r.0)) (kept_before-None classes q e (head r.0) after) r.2.run.kept)
            | inr e ↦
                let more : begins_run classes levels q ≡ true = rw (kept, begins, e.1) refl in
                absurd (both_ways (begins_run classes levels q) (run.inside q (omega (arith, r.2.from)) r.5) more)
          ]
          | inr before ↦ elim (cases_lt q (head r.0)) [
            | inl less ↦ absurd (both_ways (is_kept_at classes q) (r.2.none q r.4 less) kept)
            | inr same ↦ omega arith
          ]
        ],
      )

  -- a character that ends a run is the last of one
  pub ended_in : (q : ℕ) → q < length classes → is_kept_at classes q ≡ true → EndsRun classes levels q → (j : ℕ) × (j < count) × (back j ≡ q)
  ended_in q within kept ends =
      let r = run_of count q (omega arith) (omega (arith, cut-count)) kept in (
        r.0,
        r.1,
        elim (cases_eq (back r.0) q) [
          | inl same ↦ same
          | inr other ↦
              let member : Member q (head r.0 ∷ r.2.rest) = rw r.2.here at r.3 in
              let inside = inside_run classes levels q (head r.0) r.2.rest r.2.run.steps member (λ e. other (r.2.final ∙ sym e)) in
              absurd (both_ways (have_one_level levels (next_kept classes q) q) ends inside)
        ],
      )
