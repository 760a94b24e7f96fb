-- The characters of a sequence that are kept, by their numbers, and the units at which they begin.
use Rattle.bidi_base.proofs.Common.{◌≡◌, ℕ, zero, suc, ◌+◌, ◌-◌, ◌<◌, ◌≤◌, true, Bool, List, [], ◌∷◌, ◌++◌, length, map, get_or, refl, sym, ap, ◌∙◌, arith, inl, inr, filter}
use Rattle.bidi_base.proofs.Common.{range_with_len, cases_Bool, cases_lt, and_parts, or_cases, length-map, All-head, All-tail, All-filter, is_kept_in_place, at_indexes, between}
use Rattle.bidi_base.proofs.Common.{class_at, char_index, unit_index, IsLine, IsPerChar, are_ordered, chars_in_runs, in_runs, kept_in_place, AreLines}
use Rattle.bidi_base.specs.declared.char_data.BidiClass.{BidiClass}
use Rattle.bidi_base.specs.declared.char_data.BidiClass.TheVariants.{L}
use Rattle.bidi_laws.proofs.PermutationLemmas.{Ascends}
use Rattle.bidi_base.proofs.UnitIndexLemmas.{line_unit_indexes, unit_index-le, unit_index-le-back, unit_index-lt, unit_index-mono, unit_index-more, unit_of}
use Rattle.bidi_laws.proofs.StoredLemmas.{length-at_indexes}
use Rattle.bidi_base.proofs.TextLemmas.{HasUnits}
use Rattle.bidi_rules.specs.NeutralPass.{values_of}
use Rattle.bidi_rules.specs.PairPass.{unit_index_at}
use Rattle.bidi_explicit.specs.SequenceUnits.{is_seen}
use Rattle.bidi_explicit.proofs.InRuns.{in_run, in_run-true}
use Rattle.bidi_rules.proofs.KeptRuns.{kept_in_place-Ascends}
use Rattle.bidi_rules.proofs.NeutralUnits.{places_in_runs, all_pass}
use Rattle.bidi_explicit.proofs.PassOverText.{alike_class, in_runs-alike, in_runs-within}

pub Ascends-within : (low high : ℕ) (ks : List ℕ) → Ascends low ks high → low ≤ high
Ascends-within low high [] h = h
Ascends-within low high (k ∷ ks) h = omega (arith, h.0, Ascends-within (k + 1) high ks h.1)

pub length-values_of : {X : Type 0} (len_of : ℕ → ℕ) (chars : List ℕ) (d : X) (values : List X) (ks : List ℕ) → length (values_of d len_of chars values ks) ≡ length ks
length-values_of len_of chars d values ks = grind (arith, length-at_indexes, length-map) steps 400000

-- ---- a number that stands in a list

abbrev Has : List ℕ → ℕ → Type 0
Has xs c = (k : ℕ) × (k < length xs) × (get_or xs k 0 ≡ c)

has-later : (x c : ℕ) (xs : List ℕ) → Has xs c → Has (x ∷ xs) c
has-later x c xs h = let fits = h.1 in (suc h.0, omega arith, h.2)

has-left : (c : ℕ) (xs ys : List ℕ) (k : ℕ) → k < length xs → get_or xs k 0 ≡ c → Has (xs ++ ys) c
has-left c [] ys k fits is = absurd (omega arith)
has-left c (x ∷ xs) ys zero fits is = (0, omega arith, is)
has-left c (x ∷ xs) ys (suc k) fits is = has-later x c (xs ++ ys) (has-left c xs ys k (omega arith) is)

has-right : (c : ℕ) (xs ys : List ℕ) → Has ys c → Has (xs ++ ys) c
has-right c [] ys h = h
has-right c (x ∷ xs) ys h = has-later x c (xs ++ ys) (has-right c xs ys h)

has-range : (c low n : ℕ) → low ≤ c → c < low + n → Has (range_with_len low n) c
has-range c low zero from below = absurd (omega arith)
has-range c low (suc n) from below = grind (
  arith,
  cases_lt low c,
  has-later low c (range_with_len (low + 1) n),
  has-range c (low + 1) n,
)

has-filter : (test : ℕ → Bool) (c : ℕ) → test c ≡ true → (xs : List ℕ) (k : ℕ) → k < length xs → get_or xs k 0 ≡ c → Has (filter test xs) c
has-filter test c passes [] k fits is = absurd (omega arith)
has-filter test c passes (x ∷ xs) zero fits is = grind arith
has-filter test c passes (x ∷ xs) (suc k) fits is =
    grind (arith, cases_Bool (test x), has-later x c (filter test xs), has-filter test c passes xs k)

ascends-at : (low high : ℕ) (ks : List ℕ) (i : ℕ) → Ascends low ks high → i < length ks → (low ≤ get_or ks i 0) × (get_or ks i 0 < high)
ascends-at low high [] i h fits = absurd (omega arith)
ascends-at low high (k ∷ ks) zero h fits = (h.0, omega (arith, Ascends-within (k + 1) high ks h.1))
ascends-at low high (k ∷ ks) (suc i) h fits = let rest = ascends-at (k + 1) high ks i h.1 (omega arith) in (omega (arith, h.0, rest.0), rest.1)

ascends-lt : (low high : ℕ) (ks : List ℕ) (i j : ℕ) → Ascends low ks high → i < j → j < length ks → get_or ks i 0 < get_or ks j 0
ascends-lt low high [] i j h order fits = absurd (omega arith)
ascends-lt low high (k ∷ ks) i zero h order fits = absurd (omega arith)
ascends-lt low high (k ∷ ks) zero (suc j) h order fits = let later = ascends-at (k + 1) high ks j h.1 (omega arith) in omega (arith, later.0)
ascends-lt low high (k ∷ ks) (suc i) (suc j) h order fits = ascends-lt (k + 1) high ks i j h.1 (omega arith) (omega arith)

module _ (len_of : ℕ → ℕ) (h : HasUnits len_of) (chars : List ℕ) (old : List BidiClass) (runs : List (ℕ × ℕ)) (lines : AreLines len_of chars runs) (ordered : are_ordered runs ≡ true) where
  abbrev ks : List ℕ
  ks = kept_in_place len_of chars old runs

  rises : Ascends 0 ks (length chars)
  rises = kept_in_place-Ascends len_of h chars old runs lines ordered

  -- the unit at which the k-th begins, and the one after it
  abbrev at : ℕ → ℕ
  at k = unit_index_at len_of chars ks k

  abbrev pub behind : ℕ → ℕ
  behind k = unit_index len_of chars (get_or ks k 0 + 1)

  pub unit_index_at-in : (k : ℕ) → k < length ks → at k ≡ unit_index len_of chars (get_or ks k 0)
  unit_index_at-in k fits = grind arith steps 400000

  pub index-within : (k : ℕ) → k < length ks → get_or ks k 0 < length chars
  index-within k fits = (ascends-at 0 (length chars) ks k rises fits).1

  pub unit_index_at-behind : (k : ℕ) → k < length ks → at k < behind k
  unit_index_at-behind k fits = grind (arith, index-within, unit_index-lt) steps 400000

  pub behind-unit_index_at : (i j : ℕ) → i < j → j < length ks → behind i ≤ at j
  behind-unit_index_at i j order fits = let less = ascends-lt 0 (length chars) ks i j rises order fits in omega (arith, unit_index_at-in j fits, unit_index-mono len_of chars (get_or ks i 0 + 1) (get_or ks j 0) (omega arith))

  pub unit_index_at-rises : (i j : ℕ) → i < j → at i < at j
  unit_index_at-rises i j order = grind (arith, unit_index_at-behind, behind-unit_index_at, unit_index-le)

  pub unit_index_at-upto : (i j : ℕ) → i ≤ j → at i ≤ at j
  unit_index_at-upto i j order = grind (arith, unit_index_at-rises i j)

  pub unit_index_at-lower : (i j : ℕ) → at i < at j → i < j
  unit_index_at-lower i j less = grind (arith, unit_index_at-upto j i)

  -- the class of the k-th
  pub class-at : (classes : List BidiClass) (k : ℕ) → k < length ks → class_at (values_of L len_of chars classes ks) k ≡ class_at classes (at k)
  class-at classes k fits = by_list ks k fits ∙ ap (class_at classes) (sym (unit_index_at-in k fits))
    where
      by_list : (js : List ℕ) (k : ℕ) → k < length js → get_or (at_indexes L classes (map (unit_index len_of chars) js)) k L ≡ class_at classes (unit_index len_of chars (get_or js k 0))
      by_list [] k fits = absurd (omega arith)
      by_list (j ∷ js) zero fits = refl
      by_list (j ∷ js) (suc k) fits = by_list js k (omega arith)

  pub unit_index_at-seen : (k : ℕ) → k < length ks → is_seen runs old (at k) ≡ true
  unfolding kept_in_place
  unit_index_at-seen k fits =
      let test : ℕ → Bool = λ c. is_kept_in_place (class_at old (unit_index len_of chars c)) in
      let inside = All-filter test (λ c. in_runs runs (unit_index len_of chars c) ≡ true) (chars_in_runs len_of chars runs) (places_in_runs len_of h chars runs lines) k 0 fits in
      simp (unit_index_at-in k fits, inside, all_pass test (chars_in_runs len_of chars runs) k 0 fits)

  -- ---- the character of a unit

  has-runs : (c : ℕ) → c < length chars → (rs : List (ℕ × ℕ)) → AreLines len_of chars rs → in_runs rs (unit_index len_of chars c) ≡ true → Has (chars_in_runs len_of chars rs) c
  unfolding chars_in_runs
  has-runs c within [] lines' inside = absurd (cc inside)
  has-runs c within (r ∷ rs) lines' inside =
      let w = line_unit_indexes len_of h chars r.0 r.1 (All-head (λ (q : ℕ × ℕ). IsLine len_of chars q.0 q.1) r rs lines') in
      let i = char_index len_of chars r.0 in
      let j = char_index len_of chars r.1 in
      elim (or_cases (in_run r (unit_index len_of chars c)) (in_runs rs (unit_index len_of chars c)) inside) [
        | inl here ↦
            let there = has-range c i (j - i) (grind (arith, in_run-true, unit_index-le-back)) (grind (
              arith,
              in_run-true,
              unit_index-mono,
            )) in
            has-left c (between i j) (chars_in_runs len_of chars rs) there.0 there.1 there.2
        | inr later ↦ has-right c (between i j) (chars_in_runs len_of chars rs) (has-runs c within rs (All-tail (λ (q : ℕ × ℕ). IsLine len_of chars q.0 q.1) r rs lines') later)
      ]

  -- the number of the character to which a unit belongs
  pub record Owner (classes : List BidiClass) (u : ℕ) : Type 0 where
    pub number : ℕ
    pub fits : number < length ks
    pub from : at number ≤ u
    pub below : u < behind number
    pub same : class_at classes u ≡ class_at classes (at number)

  pub owner : (classes : List BidiClass) → IsPerChar len_of chars old → IsPerChar len_of chars classes → (u : ℕ) → is_seen runs old u ≡ true → Owner classes u
  unfolding kept_in_place
  owner classes old_per per u seen =
      let parts = and_parts (in_runs runs u) (is_kept_in_place (class_at old u)) seen in
      let w = unit_of len_of chars u (in_runs-within len_of h chars runs lines u parts.0) in
      let short = w.below in
      let next = unit_index-more len_of chars w.index 0 w.within in
      let begin = unit_index len_of chars w.index in
      let inside : in_runs runs begin ≡ true = sym (in_runs-alike len_of h chars runs lines w.index u (omega (
        arith,
        w.at_place,
      )) (omega (arith, w.at_place))) ∙ parts.0 in
      let kept : is_kept_in_place (class_at old begin) ≡ true = grind (arith, alike_class) in
      let all = has-runs w.index w.within runs lines inside in
      let one = has-filter (λ c. is_kept_in_place (class_at old (unit_index len_of chars c))) w.index kept (chars_in_runs len_of chars runs) all.0 all.1 all.2 in
      let spot_is : at one.0 ≡ begin = unit_index_at-in one.0 one.1 ∙ ap (unit_index len_of chars) one.2 in
      let behind_is : behind one.0 ≡ unit_index len_of chars (w.index + 1) = ap (λ c. unit_index len_of chars (c + 1)) one.2 in
      record {
        number = one.0;
        fits = one.1;
        from = omega (arith, w.at_place);
        below = omega (arith, w.at_place);
        same = grind (arith, alike_class);
      }
