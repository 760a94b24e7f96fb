-- N0 over the units of a sequence, pair by pair: what a search over units says of the characters between two brackets
-- and before them, and what is written.
use Rattle.bidi_base.proofs.Common.{◌≡◌, ℕ, zero, suc, ◌+◌, ◌-◌, ◌<◌, ◌≤◌, true, false, ltb, List, length, map, get_or, take, drop, reverse, Some, None, refl, sym, ap, ◌∙◌, arith, inl, inr}
use Rattle.bidi_base.proofs.Common.{lt-ltb, le-ltb, length-take, length-drop, get_or-take, get_or-drop, list_any, Range, cases_lt, list_any_at, list_any_none, as_direction, is_kept_in_place}
use Rattle.bidi_base.proofs.Common.{stands_for, AreNestedPairs, nearest_direction, class_at, IsPerChar, bounds, in_runs, kept_in_place, slice_range}
use Rattle.std.proofs.Math.Numerals.{add-one}
use Rattle.std.proofs.lemmas.List.Elements.{All-from_get_or}
use Rattle.bidi_base.specs.declared.char_data.BidiClass.{BidiClass}
use Rattle.bidi_base.specs.declared.char_data.BidiClass.TheVariants.{L}
use Rattle.bidi_laws.proofs.NeutralLemmas.{nearest_direction-more}
use Rattle.bidi_base.proofs.PlacesLemmas.{reverse-take_more}
use Rattle.bidi_base.proofs.TextLemmas.{HasUnits}
use Rattle.bidi_rules.specs.NeutralPass.{values_of, IsReady}
use Rattle.bidi_rules.specs.PairPass.{unit_index_at, IsFirstFor, IsNearestBefore}
use Rattle.bidi_rules.proofs.ListedUnitIndexes.{length-values_of, behind, Owner, owner, unit_index_at-behind, behind-unit_index_at, unit_index_at-rises, unit_index_at-lower, unit_index_at-seen, class-at}

-- a class that stands for a direction is kept
stands-kept : (d c : BidiClass) → stands_for d c ≡ true → is_kept_in_place c ≡ true
stands-kept d c h = grind arith

pub directed-kept : (c d : BidiClass) → as_direction c ≡ Some d → is_kept_in_place c ≡ true
directed-kept c d e = grind arith

-- the nearest direction before an index, by its place
nearest-none : (sos : BidiClass) (cs : List BidiClass) (i : ℕ) → i ≤ length cs → ((k : ℕ) → k < i → as_direction (class_at cs k) ≡ None) → nearest_direction sos (reverse (take i cs)) ≡ sos
nearest-none sos cs zero fits none = refl
nearest-none sos cs (suc i) fits none = grind (arith, add-one i, reverse-take_more cs i L, none i, nearest-none sos cs i)

nearest-at : (sos d : BidiClass) (cs : List BidiClass) (i x : ℕ) → i ≤ length cs → x < i → as_direction (class_at cs x) ≡ Some d → ((k : ℕ) → x < k → k < i → as_direction (class_at cs k) ≡ None)
    → nearest_direction sos (reverse (take i cs)) ≡ d
nearest-at sos d cs zero x fits before is none = absurd (omega arith)
nearest-at sos d cs (suc i) x fits before is none =
    grind (
      arith,
      add-one i,
      reverse-take_more cs i L,
      nearest_direction-more,
      cases_lt x i,
      none i,
      nearest-at sos d cs i x,
    )

-- the pair at an index
abbrev pub pair_at : List (ℕ × ℕ) → ℕ → ℕ × ℕ
pair_at pairs k = get_or pairs k (0, 0)

pub opens_upto : (n : ℕ) (pairs : List (ℕ × ℕ)) (k m : ℕ) → AreNestedPairs n pairs → k ≤ m → m < length pairs → (pair_at pairs k).0 ≤ (pair_at pairs m).0
opens_upto n pairs k m nested order fits = grind arith

-- a class between two brackets
between_at : (classes : List BidiClass) (i j k : ℕ) → j ≤ length classes → k < length (slice_range classes (i + 1) j)
    → (get_or (slice_range classes (i + 1) j) k L ≡ class_at classes (i + 1 + k)) × (i + 1 + k < j)
between_at classes i j k fits inside = grind (arith, length-take, get_or-take, get_or-drop)

module _ (len_of : ℕ → ℕ) (h : HasUnits len_of) (chars : List ℕ) (runs : List (Range ℕ)) (sos : BidiClass) (old : List BidiClass)
    (ready : IsReady len_of chars runs sos old) (now : List BidiClass) (per : IsPerChar len_of chars now)
    (kept : (u : ℕ) → is_kept_in_place (class_at now u) ≡ is_kept_in_place (class_at old u)) where
  abbrev rs : List (ℕ × ℕ)
  rs = map bounds runs

  abbrev ks : List ℕ
  ks = kept_in_place len_of chars old rs

  abbrev at : ℕ → ℕ
  at k = unit_index_at len_of chars ks k

  abbrev ends : ℕ → ℕ
  ends k = behind len_of h chars old rs ready.are_lines ready.ordered k

  abbrev cs : List BidiClass
  cs = values_of L len_of chars now ks

  count : length cs ≡ length ks
  count = length-values_of len_of chars L now ks

  class-is : (k : ℕ) → k < length ks → class_at cs k ≡ class_at now (at k)
  class-is = class-at len_of h chars old rs ready.are_lines ready.ordered now

  inside : (k : ℕ) → k < length ks → in_runs rs (at k) ≡ true
  inside k fits = grind (arith, unit_index_at-seen) steps 400000

  own : (u : ℕ) → in_runs rs u ≡ true → is_kept_in_place (class_at now u) ≡ true → Owner len_of h chars old rs ready.are_lines ready.ordered now u
  own u here is = grind (arith, owner) steps 400000

  order : (i j : ℕ) → i < j → j < length ks → ends i ≤ at j
  order = behind-unit_index_at len_of h chars old rs ready.are_lines ready.ordered

  rising : (i j : ℕ) → i < j → at i < at j
  rising = unit_index_at-rises len_of h chars old rs ready.are_lines ready.ordered

  -- ---- what a search forwards finds

  -- the first place after the i-th character that stands for a direction is one at which a character begins
  pub first-unit_index_at : (d : BidiClass) (i to r : ℕ) → i < length ks → IsFirstFor d rs now (ends i) to r → r < to → (x : ℕ) × (x < length ks) × (i < x) × (r ≡ at x)
  first-unit_index_at d i to r fits f less =
      let found = f.at less in
      let w = own r found.1 (stands-kept d (class_at now r) found.2) in
      let x = w.number in
      let behind_i : i < x = grind (arith, found.0, w.from, w.below, order x i, unit_index_at-behind len_of h chars old rs ready.are_lines ready.ordered i fits) in (
        x,
        w.fits,
        behind_i,
        grind (
          arith,
          w.same,
          w.from,
          found.2,
          f.before (at x) (order i x behind_i w.fits),
          inside x w.fits,
        ),
      )

  -- so whether it lies before a closing says whether the direction stands between
  pub between : (d : BidiClass) (i j r : ℕ) → j < length ks → ((x : ℕ) → i < x → x < j → at x < r → stands_for d (class_at cs x) ≡ false)
      → (r < at j → (x : ℕ) × (i < x) × (x < j) × (stands_for d (class_at cs x) ≡ true))
      → ltb r (at j) ≡ list_any (stands_for d) (slice_range cs (i + 1) j)
  between d i j r fits before found =
      let part = slice_range cs (i + 1) j in
      let long : length part ≡ j - (i + 1) = omega (arith, length-take (j - (i + 1)) (drop (i + 1) cs), length-drop (i + 1) cs, count) in
      elim (cases_lt r (at j)) [
        | inl less ↦
            let w = found less in
            let there = between_at cs i j (w.0 - (i + 1)) (omega (arith, count)) (omega (arith, w.1, w.2)) in
            let place : i + 1 + (w.0 - (i + 1)) ≡ w.0 = omega (arith, w.1) in
            grind (arith, lt-ltb r (at j) less, list_any_at (stands_for d) part (w.0 - (i + 1)) L)
        | inr past ↦
            le-ltb r (at j) past
            ∙ sym (list_any_none (stands_for d) part (All-from_get_or (λ c. stands_for d c ≡ false) part L (λ y below.
            let there = between_at cs i j y (omega (arith, count)) below in
            ap (stands_for d) there.0 ∙ before (i + 1 + y) (omega arith) there.1 (omega (arith, rising (i + 1 + y) j there.1)))))
      ]

  -- looked for between the two brackets alone
  pub looked-between : (d : BidiClass) (i j r : ℕ) → i < j → j < length ks → IsFirstFor d rs now (ends i) (at j) r → ltb r (at j) ≡ list_any (stands_for d) (slice_range cs (i + 1) j)
  looked-between d i j r less fits f =
      between d i j r fits (λ x after before lower. grind (arith, class-is x, f.before (at x), order i x, inside x))
      (λ found.
      let w = first-unit_index_at d i (at j) r (omega arith) f found in
      (w.0, w.2, unit_index_at-lower len_of h chars old rs ready.are_lines ready.ordered w.0 j (omega (arith, w.3)), ap (stands_for d) (class-is w.0 w.1 ∙ ap (class_at now) (sym w.3)) ∙ (f.at found).2))

  -- ---- what a search backwards finds
  pub context-is : (i : ℕ) (d : BidiClass) → i < length ks → IsNearestBefore sos rs now (at i) d → d ≡ nearest_direction sos (reverse (take i cs))
  context-is i d fits (inl found) =
      let w = own found.0 found.2 (directed-kept (class_at now found.0) d found.3) in
      let x = w.number in
      let early : x < i = unit_index_at-lower len_of h chars old rs ready.are_lines ready.ordered x i (omega (arith, found.1, w.from)) in
      sym (nearest-at sos d cs i x (omega (arith, count)) early (grind (arith, class-is x w.fits, w.same, found.3))
      (λ k after before. grind (arith, class-is k, found.4 (at k), order x k after, w.below, rising k i before, inside k)))
  context-is i d fits (inr none) =
      none.0 ∙ sym (nearest-none sos cs i (omega (arith, count)) (λ k before. grind (
        arith,
        class-is k,
        none.1 (at k),
        rising k i before,
        inside k,
      )))
