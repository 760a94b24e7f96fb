-- N0 over units, one pair after another: what is known ahead, and what a bracket and the marks after it take.
use Rattle.bidi_base.proofs.Common.{◌≡◌, ℕ, suc, ◌+◌, ◌<◌, ◌≤◌, Bool, true, false, ◌&&◌, ◌||◌, cond, eqb, ltb, List, [], ◌∷◌, length, map, get_or, take, reverse, Option, Some, None, refl, sym, ap}
use Rattle.bidi_base.proofs.Common.{◌∙◌, arith, inl, inr, eq-eqb, ne_eqb, length-take, get_or-take, get_or-drop, list_all, list_any, Range, cases_Bool, cases_lt, and_parts, and_from, get_or-map}
use Rattle.bidi_base.proofs.Common.{length-map, fill_by_all, AreNestedPairs, has_direction, is_kept_in_place, is_l_or_r, is_nsm, stands_for, is_mark_after, n0_pair, nearest_direction}
use Rattle.bidi_base.proofs.Common.{pair_direction, class_at, is_boundary, unit_index, text_len, IsPerChar, bounds, in_runs, kept_in_place, slice_range}
use Rattle.bidi_base.specs.declared.char_data.BidiClass.{BidiClass}
use Rattle.bidi_base.specs.declared.char_data.BidiClass.TheVariants.{L}
use Rattle.bidi_base.proofs.UnitIndexLemmas.{is_boundary-unit_index, unit_index-mono, unit_index-le}
use Rattle.bidi_base.proofs.TextLemmas.{HasUnits}
use Rattle.bidi_base.proofs.UnitsLemmas.{length-from_IsPerChar}
use Rattle.bidi_base.proofs.BracketRules.{with_bracket, n0_pair-Some, n0_pair-None, n0-none, n0-more, pair_direction-tests}
use Rattle.bidi_laws.proofs.NeutralLemmas.{pair_direction-l_or_r}
use Rattle.bidi_laws.proofs.PairChanges.{goes_with_pair-within, is_mark_after-before, is_mark_after-stopped, n0_pair-elsewhere}
use Rattle.bidi_rules.specs.NeutralPass.{values_of, IsPaired, IsReady}
use Rattle.bidi_rules.specs.PairPass.{at_unit_indexes, opposite_of, unit_index_at, IsSearched, IsFirstFor, IsMarksEnd, IsSet, IsTaken}
use Rattle.bidi_rules.specs.declared.neutral.pairs.Pair.{Pair}
use Rattle.bidi_rules.specs.declared.neutral.pairs.PairPass.{PairPass}
use Rattle.bidi_explicit.specs.SequenceUnits.{is_seen, IsWrittenOver}
use Rattle.bidi_rules.proofs.ListedUnitIndexes.{length-values_of, behind, index-within, owner, unit_index_at-in, unit_index_at-behind, behind-unit_index_at, unit_index_at-rises, unit_index_at-upto, unit_index_at-lower, unit_index_at-seen, class-at}
use Rattle.bidi_rules.proofs.PairPlaces.{pair_at, opens_upto, first-unit_index_at, between, looked-between, context-is}
use Rattle.bidi_explicit.proofs.PassOverText.{IsPerChar-alike, alike_class, in_runs-alike}
use Rattle.bidi_base.proofs.UpdatedLemmas.{by_range}

every : (p : BidiClass → Bool) (xs : List BidiClass) → ((i : ℕ) → i < length xs → p (get_or xs i L) ≡ true) → list_all p xs ≡ true
every p [] h = refl
every p (x ∷ xs) h = and_from (p x) (list_all p xs) (h 0 (omega arith)) (every p xs (λ i below. h (suc i) (omega arith)))

side-kept : (d : BidiClass) → is_l_or_r d ≡ true → is_kept_in_place d ≡ true
side-kept d h = grind arith

marks-all : (source_classes : List BidiClass) (b y : ℕ) → b < y → y < length source_classes → ((z : ℕ) → b < z → z ≤ y → is_nsm (class_at source_classes z) ≡ true) → is_mark_after source_classes b y ≡ true
unfolding is_mark_after
marks-all source_classes b y less fits marks = grind (arith, every, length-take, get_or-take, get_or-drop)

module _ (len_of : ℕ → ℕ) (h : HasUnits len_of) (chars : List ℕ) (original_classes : List BidiClass) (runs : List (Range ℕ)) (sos : BidiClass)
    (old : List BidiClass) (ready : IsReady len_of chars runs sos old) where
  abbrev rs : List (ℕ × ℕ)
  rs = map bounds runs

  abbrev ks : List ℕ
  ks = kept_in_place len_of chars old rs

  abbrev pub at : ℕ → ℕ
  at k = unit_index_at len_of chars ks k

  abbrev pub ends : ℕ → ℕ
  ends k = behind len_of h chars old rs ready.are_lines ready.ordered k

  abbrev pub sources : List BidiClass
  sources = values_of L len_of chars original_classes ks

  abbrev pub classes : List BidiClass → List BidiClass
  classes now = values_of L len_of chars now ks

  count : (us : List BidiClass) → length (values_of L len_of chars us ks) ≡ length ks
  count us = length-values_of len_of chars L us ks

  order : (i j : ℕ) → i < j → j < length ks → ends i ≤ at j
  order = behind-unit_index_at len_of h chars old rs ready.are_lines ready.ordered

  rising : (i j : ℕ) → i < j → at i < at j
  rising = unit_index_at-rises len_of h chars old rs ready.are_lines ready.ordered

  starts : (k : ℕ) → k < length ks → at k < ends k
  starts = unit_index_at-behind len_of h chars old rs ready.are_lines ready.ordered

  lower : (x y : ℕ) → at x < at y → x < y
  lower = unit_index_at-lower len_of h chars old rs ready.are_lines ready.ordered

  upto : (i j : ℕ) → i ≤ j → at i ≤ at j
  upto = unit_index_at-upto len_of h chars old rs ready.are_lines ready.ordered

  seen-unit_index_at : (k : ℕ) → k < length ks → is_seen rs old (at k) ≡ true
  seen-unit_index_at = unit_index_at-seen len_of h chars old rs ready.are_lines ready.ordered

  -- ---- what is known ahead

  module _ (pairs : List (ℕ × ℕ)) (nested : AreNestedPairs (length ks) pairs) (d : BidiClass) where
    -- within each pair from the one at k on, the first class that stands for the direction is the one at the unit
    -- `next`, or after it; pairs that open at a mark are left out
    pub record Foresees (cs : List BidiClass) (k next : ℕ) : Type 0 where
      pub ahead : (m : ℕ) → k ≤ m → m < length pairs → is_nsm (class_at sources (pair_at pairs m).0) ≡ false → (x : ℕ)
          → (pair_at pairs m).0 < x → x < (pair_at pairs m).1 → at x ≤ next → stands_for d (class_at cs x) ≡ eqb (at x) next
      pub there : 0 < next → next < text_len len_of chars → (x : ℕ) × (x < length ks) × (next ≡ at x)

    pub Foresees-start : (cs : List BidiClass) → Foresees cs 0 0
    Foresees-start cs = record { ahead = λ m from fits none x after before upto. absurd (omega (arith, rising (pair_at pairs m).0 x after)); there = λ some less. absurd (omega arith) }

    pub Foresees-same : (cs new : List BidiClass) (k next : ℕ) → new ≡ cs → Foresees cs k next → Foresees new (k + 1) next
    Foresees-same cs new k next is f = record { ahead = λ m from fits none x after before upto. ap (λ (ds : List BidiClass). stands_for d (class_at ds x)) is ∙ f.ahead m (omega arith) fits none x after before upto; there = f.there }

    -- once N0 was done for the pair at k
    pub Foresees-pair : (e : BidiClass) (cs : List BidiClass) (k next : ℕ) → length cs ≡ length ks → k < length pairs → Foresees cs k next
        → Foresees (n0_pair e sos sources cs (pair_at pairs k)) (k + 1) next
    Foresees-pair e cs k next long fits f = record {
      ahead = λ m after inside none x above below upto.
          let within = nested.0 m (0, 0) inside in
          let stays = n0_pair-elsewhere e sos sources cs (pair_at pairs k) x (omega (arith, within.1))
          (goes_with_pair-within sources (pair_at pairs k) (pair_at pairs m) x (nested.0 k (0, 0) fits).0 (nested.1 k m (0, 0) (omega arith) inside) (omega (arith, within.0, within.1, count original_classes)) none above below) in
          ap (stands_for d) stays ∙ f.ahead m (omega arith) inside none x above below upto;
      there = f.there;
    }

    module _ (now : List BidiClass) (per : IsPerChar len_of chars now) (kept : (u : ℕ) → is_kept_in_place (class_at now u) ≡ is_kept_in_place (class_at old u)) where
      class-is : (k : ℕ) → k < length ks → class_at (classes now) k ≡ class_at now (at k)
      class-is = class-at len_of h chars old rs ready.are_lines ready.ordered now

      size : length now ≡ text_len len_of chars
      size = length-from_IsPerChar len_of chars now per

      inside : (k : ℕ) → k < length ks → in_runs rs (at k) ≡ true
      inside k fits = (and_parts (in_runs rs (at k)) (is_kept_in_place (class_at old (at k))) (seen-unit_index_at k fits)).0

      -- looked for from after the opening at k
      pub Foresees-searched : (k to next : ℕ) → k < length pairs → to ≡ length now → IsFirstFor d rs now (ends (pair_at pairs k).0) to next → Foresees (classes now) k next
      Foresees-searched k to next fits to_is f =
          let first = nested.0 k (0, 0) fits in
          record {
            ahead = λ m from inside_m none x after before upto.
                let here : x < length ks = omega (arith, (nested.0 m (0, 0) inside_m).1) in
                let from_x = order (pair_at pairs k).0 x (omega (arith, opens_upto (length ks) pairs k m nested from inside_m)) here in
                simp (class-is x here) (elim (cases_lt (at x) next) [
                  | inl less ↦ simp (f.before (at x) from_x less (inside x here), ne_eqb (at x) next (λ e. omega arith))
                  | inr more ↦ grind (arith, f.at, starts x here, unit_index-le len_of chars (get_or ks x 0 + 1), size)
                ]);
            there = λ some less.
                let w = first-unit_index_at len_of h chars runs sos old ready now per kept d (pair_at pairs k).0 to next (omega (arith, first.0, first.1)) f (omega (arith, size)) in
                (w.0, w.1, w.3);
          }

      -- what is between the brackets of the pair at k
      pub Foresees-between : (k next : ℕ) → k < length pairs → Foresees (classes now) k next → is_nsm (class_at sources (pair_at pairs k).0) ≡ false → at (pair_at pairs k).0 < next
          → ltb next (at (pair_at pairs k).1) ≡ list_any (stands_for d) (slice_range (classes now) ((pair_at pairs k).0 + 1) (pair_at pairs k).1)
      Foresees-between k next fits f none beyond =
          let i = (pair_at pairs k).0 in
          let j = (pair_at pairs k).1 in
          let within = nested.0 k (0, 0) fits in
          between len_of h chars runs sos old ready now per kept d i j next within.1
          (λ x after before less. f.ahead k (omega arith) fits none x after before (omega arith) ∙ ne_eqb (at x) next (λ e. omega arith))
          (λ less.
          let below : next < text_len len_of chars = omega (arith, starts j within.1, unit_index-le len_of chars (get_or ks j 0 + 1)) in
          let w = f.there (omega arith) below in
          let after : i < w.0 = lower i w.0 (omega (arith, w.2)) in
          let before : w.0 < j = lower w.0 j (omega (arith, w.2)) in
          (w.0, after, before, f.ahead k (omega arith) fits none w.0 after before (omega (arith, w.2)) ∙ eq-eqb (at w.0) next (sym w.2)))

  -- ---- what a bracket and the marks after it take

  module _ (now new : List BidiClass) (per : IsPerChar len_of chars now)
      (kept : (u : ℕ) → is_kept_in_place (class_at now u) ≡ is_kept_in_place (class_at old u)) (d : BidiClass) (side : is_l_or_r d ≡ true)
      (b : ℕ) (fits : b < length ks) (from end : ℕ) (from_is : from ≡ at b) (long : length original_classes ≡ length now) (e : IsMarksEnd len_of chars rs original_classes now (ends b) end) (w : IsWrittenOver (is_seen rs now) d from end now new) where
    same-seen : (u : ℕ) → is_seen rs now u ≡ is_seen rs old u
    same-seen u = ap (λ t. in_runs rs u && t) (kept u)

    total : length now ≡ text_len len_of chars
    total = length-from_IsPerChar len_of chars now per

    there-is : (classes : List BidiClass) (k : ℕ) → k < length ks → class_at (values_of L len_of chars classes ks) k ≡ class_at classes (at k)
    there-is = class-at len_of h chars old rs ready.are_lines ready.ordered

    place-is : (k : ℕ) → k < length ks → at k ≡ unit_index len_of chars (get_or ks k 0)
    place-is = unit_index_at-in len_of h chars old rs ready.are_lines ready.ordered

    inside-now : (y : ℕ) → y < length ks → b ≤ y → at y < end → class_at new (at y) ≡ d
    inside-now y here order' less =
        w.inside (at y) (omega (arith, upto b y order')) less (same-seen (at y) ∙ seen-unit_index_at y here)

    -- the character at which the marks end
    stop : end < length now → (x : ℕ) × (x < length ks) × (b < x) × (end ≡ at x) × (is_nsm (class_at sources x) ≡ false)
    stop less =
        grind (
          arith,
          owner len_of h chars old rs ready.are_lines ready.ordered now ready.per_char per end,
          same-seen end,
          place-is,
          unit_index-mono,
          lower b,
          starts b fits,
          there-is original_classes,
        )

    begins : at b < end
    begins = grind (arith, starts, unit_index-le, total)

    pub bracket-classes : values_of L len_of chars new ks ≡ with_bracket sources b (classes now) d
    bracket-classes =
        fill_by_all (λ k. cond (eqb k b || is_mark_after sources b k) d (class_at (classes now) k)) (values_of L len_of chars new ks) (length (classes now)) L (count new ∙ sym (count now))
        (λ y below. by_place y (omega (arith, count now)))
      where
        by_place : (y : ℕ) → y < length ks → class_at (values_of L len_of chars new ks) y ≡ cond (eqb y b || is_mark_after sources b y) d (class_at (classes now) y)
        by_place y here = simp (there-is new y here, there-is now y here) (elim (cases_lt y b) [
          | inl before ↦ simp (w.below (at y) (omega (arith, from_is, rising y b before)), ne_eqb y b (λ same. omega arith), is_mark_after-before sources b y (omega arith))
          | inr from_b ↦ elim (cases_lt b y) [
            | inr same' ↦ let same : y ≡ b = omega arith in simp (inside-now y here from_b (omega (arith, begins, ap at same)), eq-eqb y b same)
            | inl after ↦ elim (cases_lt (at y) end) [
              | inl mark ↦
                  let marks : is_mark_after sources b y ≡ true = marks-all sources b y after (omega (arith, count original_classes))
                  (λ z more less. grind (arith, there-is original_classes z, place-is z, e.marks (get_or ks z 0), order b z more, upto z y less, same-seen (at z), seen-unit_index_at z)) in
                  simp (inside-now y here from_b mark, ne_eqb y b (λ same. omega arith), marks)
              | inr past ↦
                  let less : end < length now = omega (arith, total, starts y here, unit_index-le len_of chars (get_or ks y 0 + 1)) in
                  let s = stop less in
                  let upto_y : s.0 ≤ y = grind (arith, rising y s.0, s.3) in
                  simp (w.above (at y) past, ne_eqb y b (λ same. omega arith), is_mark_after-stopped sources b s.0 y s.2 upto_y (omega (arith, count original_classes, s.1)) s.4)
            ]
          ]
        ])

    pub bracket-kept : (u : ℕ) → is_kept_in_place (class_at new u) ≡ is_kept_in_place (class_at old u)
    bracket-kept u = by_range u from end (λ before. simp (w.below u before, kept u)) (λ after within. grind (arith, w.inside u after within, w.failing u, kept u, side-kept d side)) (λ past. simp (w.above u past, kept u))

    -- where a place is that of a character, or the end, all units of another lie on one side of it
    pub bracket-IsPerChar : IsPerChar len_of chars new
    bracket-IsPerChar = IsPerChar-alike len_of chars new (w.same_len ∙ total) (λ c within u after below.
        let first = unit_index len_of chars c in
        let same_now = alike_class len_of h chars now per c u within after below in
        let same_runs = in_runs-alike len_of h chars rs ready.are_lines c u after below in
        let alike : is_seen rs now u ≡ is_seen rs now first = simp (same_runs, same_now) in
        let stays : class_at new u ≡ class_at now u → class_at new first ≡ class_at now first → class_at new u ≡ class_at new first = λ x y. x ∙ same_now ∙ sym y in
        elim (cases_lt first from) [
          | inl before ↦
              let whole : unit_index len_of chars (c + 1) ≤ from = grind (arith, place-is b fits, unit_index-mono) in
              stays (w.below u (omega arith)) (w.below first before)
          | inr from_first ↦ elim (cases_lt first end) [
            | inr past ↦ stays (w.above u (omega arith)) (w.above first past)
            | inl under ↦
                let whole : unit_index len_of chars (c + 1) ≤ end = grind (arith, total, unit_index-le len_of chars (c + 1), e.stops, unit_index-mono) in
                grind (arith, alike, w.inside u, w.inside first, w.failing u, w.failing first, same_now)
          ]
        ])

    pub bracketed : (values_of L len_of chars new ks ≡ with_bracket sources b (classes now) d) × ((u : ℕ) → is_seen rs old u ≡ false → class_at new u ≡ class_at now u) × ((u : ℕ) → is_kept_in_place (class_at new u) ≡ is_kept_in_place (class_at old u)) × IsPerChar len_of chars new
    bracketed = (bracket-classes, λ u plain. w.failing u (same-seen u ∙ plain), bracket-kept, bracket-IsPerChar)

-- ---- the pairs one after another

-- a direction other than e is the opposite one
others-any : (e : BidiClass) (cs : List BidiClass) → is_l_or_r e ≡ true → list_any (stands_for e) cs ≡ false → list_any has_direction cs ≡ list_any (stands_for (opposite_of e)) cs
others-any e [] side none = refl
others-any e (c ∷ cs) side none = grind (arith, others-any e cs)

module _ (len_of : ℕ → ℕ) (h : HasUnits len_of) (chars : List ℕ) (original_classes : List BidiClass) (runs : List (Range ℕ)) (sos : BidiClass)
    (old : List BidiClass) (ready : IsReady len_of chars runs sos old)
    (e : BidiClass) (side : is_l_or_r e ≡ true) (long : length original_classes ≡ length old) (pairs : List (ℕ × ℕ)) (nested : AreNestedPairs (length (kept_in_place len_of chars old (map bounds runs))) pairs) where
  abbrev spots : ℕ → ℕ
  spots k = at len_of h chars original_classes runs sos old ready k

  abbrev cs_of : List BidiClass → List BidiClass
  cs_of now = classes len_of h chars original_classes runs sos old ready now

  abbrev from_sources : List BidiClass
  from_sources = sources len_of h chars original_classes runs sos old ready

  abbrev number : ℕ
  number = length (kept_in_place len_of chars old (map bounds runs))

  -- N0 is done for the pairs before the one at k
  pub record IsWalkedTo (now : List BidiClass) (k : ℕ) (walk : PairPass) : Type 0 where
    pub done : IsPaired len_of chars original_classes old now runs e sos (take k pairs)
    pub embedding_is : walk.embedding.direction ≡ e
    pub opposite_is : walk.opposite.direction ≡ opposite_of e
    pub embedding : Foresees len_of h chars original_classes runs sos old ready pairs nested e (cs_of now) k walk.embedding.unit
    pub opposite : Foresees len_of h chars original_classes runs sos old ready pairs nested (opposite_of e) (cs_of now) k walk.opposite.unit

  pub IsWalkedTo-start : (walk : PairPass) → walk ≡ record { embedding = record { direction = e; unit = 0 }; opposite = record { direction = opposite_of e; unit = 0 } } → IsWalkedTo old 0 walk
  IsWalkedTo-start walk is = grind (arith, n0-none, Foresees-start len_of h chars original_classes runs sos old ready pairs nested)

  -- where the brackets of a pair stand
  pub record Stands (p : ℕ × ℕ) (k : ℕ) : Type 0 where
    pub first : p.0 ≡ spots (pair_at pairs k).0
    pub last : p.1 ≡ spots (pair_at pairs k).1
    pub first_begins : is_boundary len_of chars p.0 ≡ true
    pub last_begins : is_boundary len_of chars p.1 ≡ true
    pub first_inside : p.0 < text_len len_of chars
    pub last_inside : p.1 < text_len len_of chars
    pub first_place : p.0 ≡ unit_index len_of chars (get_or (kept_in_place len_of chars old (map bounds runs)) (pair_at pairs k).0 0)
    pub last_place : p.1 ≡ unit_index len_of chars (get_or (kept_in_place len_of chars old (map bounds runs)) (pair_at pairs k).1 0)
    pub first_within : get_or (kept_in_place len_of chars old (map bounds runs)) (pair_at pairs k).0 0 < length chars
    pub last_within : get_or (kept_in_place len_of chars old (map bounds runs)) (pair_at pairs k).1 0 < length chars
    pub class_is : class_at from_sources (pair_at pairs k).0 ≡ class_at original_classes p.0
    pub fits : k < length pairs

  pub stands : (ps : List (ℕ × ℕ)) → ps ≡ at_unit_indexes len_of chars (kept_in_place len_of chars old (map bounds runs)) pairs → (k : ℕ) → k < length ps → Stands (get_or ps k (0, 0)) k
  stands ps is k inside =
      let ks = kept_in_place len_of chars old (map bounds runs) in
      let spot_pair : ℕ × ℕ → ℕ × ℕ = λ p. (unit_index_at len_of chars ks p.0, unit_index_at len_of chars ks p.1) in
      let fits : k < length pairs = omega (arith, ap length is, length-map pairs spot_pair) in
      let here : get_or ps k (0, 0) ≡ spot_pair (pair_at pairs k) = grind (arith, get_or-map) in
      let w = nested.0 k (0, 0) fits in
      let i = (pair_at pairs k).0 in
      let j = (pair_at pairs k).1 in
      let i_fits : i < length ks = omega (arith, w.0, w.1) in
      let first : (get_or ps k (0, 0)).0 ≡ spots i = ap (λ (p : ℕ × ℕ). p.0) here in
      let last : (get_or ps k (0, 0)).1 ≡ spots j = ap (λ (p : ℕ × ℕ). p.1) here in
      let first_place = first ∙ unit_index_at-in len_of h chars old (map bounds runs) ready.are_lines ready.ordered i i_fits in
      let last_place = last ∙ unit_index_at-in len_of h chars old (map bounds runs) ready.are_lines ready.ordered j w.1 in
      grind (arith, first_place, last_place, is_boundary-unit_index, unit_index_at-behind len_of h chars old (map bounds runs) ready.are_lines ready.ordered, unit_index-le len_of chars, index-within len_of h chars old (map bounds runs) ready.are_lines ready.ordered, class-at)

  module _ (now : List BidiClass) (k : ℕ) (fits : k < length pairs) (walk new_walk : PairPass) (w : IsWalkedTo now k walk) where
    abbrev i : ℕ
    i = (pair_at pairs k).0

    abbrev j : ℕ
    j = (pair_at pairs k).1

    within : (i < j) × (j < number)
    within = nested.0 k (0, 0) fits

    abbrev pair : Pair
    pair = record { opening = spots i; inside = ends len_of h chars original_classes runs sos old ready i; closing = spots j; is_marked = is_nsm (class_at from_sources i) }

    now-size : length now ≡ text_len len_of chars
    now-size = length-from_IsPerChar len_of chars now w.done.per_char

    opens : spots i < text_len len_of chars
    opens = omega (arith, unit_index_at-behind len_of h chars old (map bounds runs) ready.are_lines ready.ordered i (let x = within in omega (arith, x.0, x.1)), unit_index-le len_of chars (get_or (kept_in_place len_of chars old (map bounds runs)) i 0 + 1))

    -- one question answered
    answered : (d : BidiClass) (known next : ℕ) (answer : Bool) → Foresees len_of h chars original_classes runs sos old ready pairs nested d (cs_of now) k known
        → IsSearched d (map bounds runs) now pair known next answer
        → (answer ≡ list_any (stands_for d) (slice_range (cs_of now) (i + 1) j)) × Foresees len_of h chars original_classes runs sos old ready pairs nested d (cs_of now) k next
    answered d known next answer f a = elim (cases_Bool pair.is_marked) [
      | inl yes' ↦ grind (arith, a.looked yes', looked-between len_of h chars runs sos old ready now w.done.per_char w.done.kept d i j, within)
      | inr no' ↦
          let next_is : Foresees len_of h chars original_classes runs sos old ready pairs nested d (cs_of now) k next × (spots i < next) = elim (cases_lt (spots i) known) [
            | inl known' ↦ grind (arith, a.kept no' known')
            | inr past ↦ let s = a.sought no' past in grind (arith, s, Foresees-searched len_of h chars original_classes runs sos old ready pairs nested d now w.done.per_char w.done.kept k (length now) next fits refl s, unit_index_at-behind len_of h chars old (map bounds runs) ready.are_lines ready.ordered i, within, opens, now-size)
          ] in
          grind (arith, a.ahead no', next_is, Foresees-between len_of h chars original_classes runs sos old ready pairs nested d now w.done.per_char w.done.kept k next fits)
    ]

    -- what the pair takes, and what is known then
    pub record IsAnswered (taken : Option BidiClass) : Type 0 where
      pub direction : taken ≡ pair_direction e sos (cs_of now) (pair_at pairs k)
      pub embedding : Foresees len_of h chars original_classes runs sos old ready pairs nested e (cs_of now) k new_walk.embedding.unit
      pub opposite : Foresees len_of h chars original_classes runs sos old ready pairs nested (opposite_of e) (cs_of now) k new_walk.opposite.unit

    pub IsAnswered-taken : (taken : Option BidiClass) → IsTaken sos (map bounds runs) now pair walk new_walk taken → IsAnswered taken
    IsAnswered-taken taken t =
        let part = slice_range (cs_of now) (i + 1) j in
        let first = answered e walk.embedding.unit new_walk.embedding.unit t.embedding w.embedding (simp w.embedding_is at t.searched) in
        let context = nearest_direction sos (reverse (take i (cs_of now))) in
        let tests : (b : Bool) → b ≡ list_any has_direction part → pair_direction e sos (cs_of now) (pair_at pairs k) ≡ cond t.embedding (Some e) (cond b (Some context) None) =
        λ b is. pair_direction-tests e sos (cs_of now) (pair_at pairs k) t.embedding b first.0 is in
        elim (cases_Bool t.embedding) [
          | inl yes' ↦ grind (arith, t.is, tests (list_any has_direction part) refl, w.embedding_is, first.1, t.idle yes', w.opposite)
          | inr no' ↦
              let second = answered (opposite_of e) walk.opposite.unit new_walk.opposite.unit t.opposite w.opposite (simp w.opposite_is at (t.searched_opposite no')) in
              let some : t.opposite ≡ list_any has_direction part = second.0 ∙ sym (others-any e part side (sym first.0 ∙ no')) in
              record {
                direction = simp (t.is, tests t.opposite some, no') (grind (arith, context-is len_of h chars runs sos old ready now w.done.per_char w.done.kept i t.context (let x = within in omega (arith, x.0, x.1)), t.nearest no'));
                embedding = first.1;
                opposite = second.1;
              }
        ]

    -- nothing is written
    pub IsWalkedTo-none : (taken : Option BidiClass) → IsAnswered taken → taken ≡ None → new_walk.embedding.direction ≡ e
        → new_walk.opposite.direction ≡ opposite_of e → IsWalkedTo now (k + 1) new_walk
    IsWalkedTo-none taken a none e_is o_is =
        let stays = n0_pair-None e sos from_sources (cs_of now) (pair_at pairs k) (sym a.direction ∙ none) in
        let embedding = Foresees-same len_of h chars original_classes runs sos old ready pairs nested e (cs_of now) (cs_of now) k new_walk.embedding.unit refl a.embedding in
        let opposite = Foresees-same len_of h chars original_classes runs sos old ready pairs nested (opposite_of e) (cs_of now) (cs_of now) k new_walk.opposite.unit refl a.opposite in
        grind (arith, stays, w.done, n0-more e sos from_sources (cs_of old) pairs k (0, 0) fits, embedding, opposite)

    -- both brackets are written
    pub IsWalkedTo-set : (taken : Option BidiClass) (d : BidiClass) (mid new : List BidiClass) → IsAnswered taken → taken ≡ Some d
        → new_walk.embedding.direction ≡ e → new_walk.opposite.direction ≡ opposite_of e
        → (let ks = kept_in_place len_of chars old (map bounds runs) in IsSet len_of chars (map bounds runs) original_classes d (spots i) (get_or ks i 0 + 1) now mid)
        → (let ks = kept_in_place len_of chars old (map bounds runs) in IsSet len_of chars (map bounds runs) original_classes d (spots j) (get_or ks j 0 + 1) mid new)
        → IsWalkedTo new (k + 1) new_walk
    IsWalkedTo-set taken d mid new a some e_is o_is first last =
        let p = w.done in
        let takes : pair_direction e sos (cs_of now) (pair_at pairs k) ≡ Some d = sym a.direction ∙ some in
        let d_side : is_l_or_r d ≡ true = pair_direction-l_or_r e sos (cs_of now) (pair_at pairs k) d side ready.side takes in
        let i_fits : i < number = (let x = within in omega (arith, x.0, x.1)) in
        let long_now : length original_classes ≡ length now = long ∙ length-from_IsPerChar len_of chars old ready.per_char ∙ sym now-size in
        let mid_is = bracketed len_of h chars original_classes runs sos old ready now mid p.per_char p.kept d d_side i i_fits (spots i) first.0 refl long_now first.1.0 first.1.1 in
        let long_mid : length original_classes ≡ length mid = long ∙ length-from_IsPerChar len_of chars old ready.per_char ∙ sym (length-from_IsPerChar len_of chars mid mid_is.3) in
        let new_is = bracketed len_of h chars original_classes runs sos old ready mid new mid_is.3 mid_is.2 d d_side j within.1 (spots j) last.0 refl long_mid last.1.0 last.1.1 in
        let both : cs_of new ≡ n0_pair e sos from_sources (cs_of now) (pair_at pairs k) =
        new_is.0 ∙ ap (λ (cs : List BidiClass). with_bracket from_sources j cs d) mid_is.0 ∙ sym (n0_pair-Some e sos from_sources (cs_of now) (pair_at pairs k) d takes) in
        let count = length-values_of len_of chars L now (kept_in_place len_of chars old (map bounds runs)) in
        let embedding = Foresees-pair len_of h chars original_classes runs sos old ready pairs nested e e (cs_of now) k new_walk.embedding.unit count fits a.embedding in
        let opposite = Foresees-pair len_of h chars original_classes runs sos old ready pairs nested (opposite_of e) e (cs_of now) k new_walk.opposite.unit count fits a.opposite in
        grind (arith, both, p, mid_is, new_is, n0-more e sos from_sources (cs_of old) pairs k (0, 0) fits, embedding, opposite)
