-- The steps of the walk over numbers, by stretches of units.
use Rattle.bidi_base.proofs.Common.{◌≡◌, ℕ, zero, suc, ◌+◌, ◌-◌, ◌<◌, ◌≤◌, Bool, true, false, List, [], ◌∷◌, ◌++◌, length, get_or, map, take, drop, reverse, replicate, refl, sym, ap, ◌∙◌}
use Rattle.bidi_base.proofs.Common.{arith, inl, inr, append-nil, append_assoc, length-append, get_or-drop, common_steps, All, range_with_len, cases_Bool, both_ways, and_left, and_right}
use Rattle.bidi_base.proofs.Common.{map-append, length-range_with_len, Range, is_l, is_strong, is_kept_in_place, at_indexes, class_at, nearest, are_ordered, bounds, in_runs}
use Rattle.std.proofs.Math.Numerals.{add-one}
use Rattle.bidi_base.specs.declared.char_data.BidiClass.{BidiClass}
use Rattle.bidi_base.specs.declared.char_data.BidiClass.TheVariants.{L, ON}
use Rattle.bidi_base.proofs.PlacesLemmas.{nearest-more}
use Rattle.bidi_laws.proofs.StoredLemmas.{at_indexes-append}
use Rattle.bidi_rules.specs.declared.weak.w2_w4_w5_w7.Walk.{Walk}
use Rattle.bidi_rules.specs.declared.weak.before.Before.{Before}
use Rattle.bidi_rules.specs.declared.weak.before.Before.TheVariants.{Other}
use Rattle.bidi_rules.specs.WeakPass.{is_number_or_terminator, is_other, strengthened, strong_up_to, waits, joins, next_before, waiting_becomes, resolved, w7_by, left_over, is_number, still_to_come, walked}
use Rattle.bidi_rules.specs.WeakWalk.{Pass, seen, units, IsUnderWay, IsStretch, IsWalked}
use Rattle.bidi_explicit.specs.SequenceUnits.{is_seen, seen_units, IsWrittenOver}
use Rattle.bidi_explicit.proofs.InRuns.{in_runs-at, in_runs-drop, start_or, start_within, gap_before, gap_after, next_start}
use Rattle.bidi_explicit.proofs.Marks.{marked-none, marked-parts, marked-empty, marked-full, at_marked-same, at_marked-all}
use Rattle.bidi_rules.proofs.WeakMarks.{All-seen}
use Rattle.bidi_base.proofs.UpdatedLemmas.{by_range}
use Rattle.bidi_rules.proofs.WeakUnits.{walked-plain, row-joins, row-waits, row-decides}

-- ---- what is written is not changed by W3 and W6

waiting_becomes-stays : (c strong : BidiClass) (b : Bool) (before : Before) → left_over (w7_by b (waiting_becomes (strengthened strong c) before)) ≡ w7_by b (waiting_becomes (strengthened strong c) before)
waiting_becomes-stays c strong b before = grind arith

stays-row : (n : ℕ) (v : BidiClass) → left_over v ≡ v → map left_over (replicate n v) ≡ replicate n v
stays-row zero v h = refl
stays-row (suc n) v h = simp (h, stays-row n v h)

pub joins-waits : (z : BidiClass) (before : Before) → joins z before ≡ true → (waits before ≡ true) × (waits (next_before z before) ≡ true)
joins-waits z before h = grind arith

pub IsUnderWay-start : (p : Pass) → IsUnderWay p p.old (record { strong = p.sos; before = Other; first = 0; first_run = 0 }) 0
IsUnderWay-start p = grind arith

-- the walk after a stretch of class c
abbrev pub next_walk : Walk → BidiClass → ℕ → ℕ → Walk
next_walk w c first first_run = record { strong = strong_up_to w.strong c; before = next_before (strengthened w.strong c) w.before; first = first; first_run = first_run }

module _ (p : Pass) (now : List BidiClass) (w : Walk) (i : ℕ) (h : IsUnderWay p now w i) where
  abbrev target : List BidiClass
  target = walked (class_at p.old) p.len p.sos Other 0 0 (units p 0 (length p.old))

  abbrev rest : BidiClass → Before → ℕ → ℕ → List BidiClass
  rest strong before n j = walked (class_at p.old) p.len strong before 0 n (units p j (length p.old))

  waits-unseen : (j : ℕ) → i ≤ j → j ≤ length p.old → ((k : ℕ) → i ≤ k → k < j → seen p k ≡ false) → waits w.before ≡ true → IsUnderWay p now w j
  waits-unseen j order fits none wait =
      grind (arith, marked-empty (seen p) i j none, marked-parts (seen p) i j (length p.old), marked-parts (seen p) h.from i j, append-nil)

  -- units that are not seen
  pub IsUnderWay-unseen : (j : ℕ) → i ≤ j → j ≤ length p.old → ((k : ℕ) → i ≤ k → k < j → seen p k ≡ false) → IsUnderWay p now w j
  IsUnderWay-unseen j order fits none =
      let from = h.from in
      let start : from ≤ i = h.order in
      let nothing : units p i j ≡ [] = marked-empty (seen p) i j none in
      let reads : map left_over (at_indexes L now (units p 0 from)) ++ rest w.strong w.before (length (units p from i)) j ≡ target = grind (arith, marked-parts (seen p) i j (length p.old)) in
      elim (cases_Bool (waits w.before)) [
        | inl wait ↦ waits-unseen j order fits none wait
        | inr free ↦
            let at : from ≡ i = h.idle free in
            record {
              from = j;
              answers = grind (arith, marked-parts (seen p) 0 i j, marked-none (seen p) j j, marked-none (seen p) from i, append-nil);
              unwritten = λ k a. h.unwritten k (omega arith);
              unseen = h.unseen;
              waiting = λ wait. absurd (both_ways (waits w.before) free wait);
              idle = λ t. refl;
              order = omega arith;
              inside = fits;
              long = h.long;
            }
      ]

  -- what waits becomes the class v
  pub IsWrittenOver-decided : (v : BidiClass) (now1 : List BidiClass) → are_ordered p.runs ≡ true
      → (waits w.before ≡ true → IsWrittenOver (is_seen (drop w.first_run p.runs) now) v w.first i now now1) → (waits w.before ≡ false → now1 ≡ now)
      → IsWrittenOver (seen p) v h.from i now now1
  IsWrittenOver-decided v now1 ordered some none = grind (arith, common_steps, in_runs-drop)

  -- the final classes below i, once it has
  front-written : (v : BidiClass) (now1 : List BidiClass) → IsWrittenOver (seen p) v h.from i now now1 → left_over v ≡ v
      → map left_over (at_indexes L now1 (units p 0 i)) ≡ map left_over (at_indexes L now (units p 0 h.from)) ++ replicate (length (units p h.from i)) v
  front-written v now1 s stays =
      simp (marked-parts (seen p) 0 h.from i (omega arith) h.order, at_indexes-append, at_marked-same (seen p) now1 now 0 h.from (λ k a b t. s.below k b), at_marked-all (seen p) now1 v h.from i s.inside, map-append, stays-row (length (units p h.from i)) v stays)

  -- the end, once what waits is neutral
  pub IsWalked-decided : (now1 : List BidiClass) → length p.old ≤ i → IsWrittenOver (seen p) ON h.from i now now1 → IsWalked p.len p.runs p.sos p.old now1
  IsWalked-decided now1 past s =
      let within : i ≤ length p.old = h.inside in
      let top : length p.old ≡ i = omega arith in
      grind (arith, front-written)

  module _ (runs : List (ℕ × ℕ)) (run j : ℕ) (s : IsStretch p w runs run i j) where
    abbrev c : BidiClass
    c = class_at p.old i

    abbrev z : BidiClass
    z = strengthened w.strong c

    abbrev next : Before
    next = next_before z w.before

    abbrev strong : BidiClass
    strong = strong_up_to w.strong c

    abbrev v : BidiClass
    v = w7_by (is_l w.strong) (waiting_becomes z w.before)

    abbrev own : BidiClass
    own = w7_by (is_l w.strong) (resolved z w.before)

    abbrev n : ℕ
    n = length (units p h.from i)

    abbrev front : List BidiClass
    front = map left_over (at_indexes L now (units p 0 h.from))

    -- how many units come after the first
    abbrev m : ℕ
    m = j - i - 1

    pub seen-stretch : (k : ℕ) → i ≤ k → k < j → seen p k ≡ true
    seen-stretch k a b = grind (arith, in_runs-at)

    stretch : units p i j ≡ range_with_len i (suc m)
    stretch = marked-full (seen p) i j seen-stretch ∙ ap (range_with_len i) {y = suc m} (omega (arith, s.some))

    each : (k : ℕ) → i ≤ k → k < i + suc m → class_at p.old k ≡ c
    each k a b = let some = s.some in s.alike k a (omega arith)

    -- all that is left to read, with the stretch in front
    reads : (xs : List BidiClass) → walked (class_at p.old) p.len w.strong w.before 0 n (range_with_len i (suc m) ++ units p j (length p.old)) ≡ xs → front ++ xs ≡ target
    reads xs e =
        simp (← e) (simp (marked-parts (seen p) i j (length p.old) (omega (arith, s.some)) s.inside, stretch) at h.answers)

    count-stretch : length (units p i j) ≡ suc m
    count-stretch = ap length stretch ∙ length-range_with_len i (suc m)

    pub IsUnderWay-joins : joins z w.before ≡ true → IsUnderWay p now (next_walk w c w.first w.first_run) j
    IsUnderWay-joins joined =
        let both = joins-waits z w.before joined in
        record {
          from = h.from;
          answers = simp (marked-parts (seen p) h.from i j h.order (omega (arith, s.some)), length-append, count-stretch)
              (reads (rest strong next (n + suc m) j) (row-joins (class_at p.old) p.len w.strong c w.before (suc m) n i (units p j (length p.old)) each joined));
          unwritten = h.unwritten;
          unseen = h.unseen;
          waiting = λ t. let r = h.waiting both.0 in record { first = r.first; run_fits = r.run_fits; run = r.run };
          idle = λ free. absurd (both_ways (waits next) free both.1);
          order = omega (arith, h.order, s.some);
          inside = s.inside;
          long = h.long;
        }

    module _ (now1 : List BidiClass) (t : IsWrittenOver (seen p) v h.from i now now1) (apart : joins z w.before ≡ false) where
      pub IsUnderWay-waits : waits next ≡ true → IsUnderWay p now1 (next_walk w c i run) j
      IsUnderWay-waits wait =
          grind (
            arith,
            front-written v now1 t (waiting_becomes-stays c w.strong (is_l w.strong) w.before),
            count-stretch,
            append_assoc,
            s,
            reads (replicate n v ++ rest strong next (suc m) j),
            row-waits (class_at p.old) p.len w.strong c w.before m n i (units p j (length p.old)) each apart wait,
          )

      -- at its units stands what W3 and W6 take to the class that they get
      pub IsUnderWay-decides : waits next ≡ false → (now2 : List BidiClass) → ((k : ℕ) → i ≤ k → k < j → left_over (class_at now2 k) ≡ own)
          → ((k : ℕ) → k < i → class_at now2 k ≡ class_at now1 k) → ((k : ℕ) → j ≤ k → class_at now2 k ≡ class_at now1 k) → length now2 ≡ length now1 → (first first_run : ℕ) → IsUnderWay p now2 (next_walk w c first first_run) j
      IsUnderWay-decides free now2 written below above long first first_run =
          let some = s.some in
          let order = h.order in
          let stays = at_marked-same (seen p) now2 now1 0 i (λ k a b u. below k b) in
          let written_is = front-written v now1 t (waiting_becomes-stays c w.strong (is_l w.strong) w.before) in
          let up_to : map left_over (at_indexes L now2 (units p 0 j)) ≡ (front ++ replicate n v) ++ replicate (suc m) own =
          simp (marked-parts (seen p) 0 i j (omega arith) (omega arith), at_indexes-append, map-append, stays, written_is, stretch, row_left (suc m) i (λ k a b. written k a (omega arith))) in
          record {
            from = j;
            answers = simp (up_to, marked-none (seen p) j j (omega arith), append_assoc)
                (reads (replicate n v ++ (replicate (suc m) own ++ rest strong next 0 j)) (row-decides (class_at p.old) p.len w.strong c w.before m n i (units p j (length p.old)) each apart free));
            unwritten = λ k a. above k a ∙ t.above k (omega arith) ∙ h.unwritten k (omega arith);
            unseen = λ k u. by_range k i j (below k) (λ high within. absurd (both_ways (seen p k) u (seen-stretch k high within))) (above k) ∙ t.failing k u ∙ h.unseen k u;
            waiting = λ u. absurd (both_ways (waits next) free u);
            idle = λ u. refl;
            order = omega arith;
            inside = s.inside;
            long = long ∙ t.same_len ∙ h.long;
          }
        where
          row_left : (l a : ℕ) → ((k : ℕ) → a ≤ k → k < a + l → left_over (class_at now2 k) ≡ own) → map left_over (at_indexes L now2 (range_with_len a l)) ≡ replicate l own
          row_left zero a each = refl
          row_left (suc l) a each = simp (each a (omega arith) (omega arith), row_left l (a + 1) (λ k from below. each k (omega arith) (omega arith)))

-- ---- a unit that is passed over

record IsPassed (c strong : BidiClass) (before : Before) : Type 0 where
  apart : joins (strengthened strong c) before ≡ false
  next : next_before (strengthened strong c) before ≡ before
  free : waits (next_before (strengthened strong c) before) ≡ false
  own : left_over c ≡ w7_by (is_l strong) (resolved (strengthened strong c) before)
  none : (n : ℕ) → still_to_come (next_before (strengthened strong c) before) n ≡ 0

is_passed : (c strong : BidiClass) (before : Before) → is_number_or_terminator c ≡ false → is_other before ≡ true → IsPassed c strong before
is_passed c strong before h other = grind arith

pub other-free : (before : Before) → is_other before ≡ true → waits before ≡ false
other-free before h = grind arith

removed-weak : (strong c : BidiClass) → is_kept_in_place c ≡ false → strong_up_to strong c ≡ strong
removed-weak strong c h = grind arith

pub IsUnderWay-passes : (p : Pass) (now : List BidiClass) (w : Walk) (i run : ℕ) → IsUnderWay p now w i → run < length p.runs
    → (get_or p.runs run (0, 0)).0 ≤ i → i < (get_or p.runs run (0, 0)).1 → i < length p.old
    → is_other w.before ≡ true → is_number_or_terminator (class_at now i) ≡ false → IsUnderWay p now (record { strong = strong_up_to w.strong (class_at now i); before = w.before; first = w.first; first_run = w.first_run }) (i + 1)
IsUnderWay-passes p now w i run h fits starts ends inside other asked =
    let c = class_at p.old i in
    let read : class_at now i ≡ c = h.unwritten i h.order in
    let q = is_passed c w.strong w.before (ap is_number_or_terminator (sym read) ∙ asked) other in
    let at : h.from ≡ i = h.idle (other-free w.before other) in
    elim (cases_Bool (is_kept_in_place c)) [
      | inl kept ↦
          let s : IsStretch p w p.runs run i (i + 1) = grind (arith, kept, q.none) in
          let none : IsWrittenOver (seen p) (w7_by (is_l w.strong) (waiting_becomes (strengthened w.strong c) w.before)) h.from i now now = grind arith in
          simp read (simp q.next at (IsUnderWay-decides p now w i h p.runs run (i + 1) s now none q.apart q.free now
          (λ k from below. let same : k ≡ i = omega arith in simp (same, read) q.own)
          (λ k below. refl) (λ k above. refl) refl w.first w.first_run))
      | inr gone ↦
          simp (read, removed-weak w.strong c gone) (IsUnderWay-unseen p now w i h (i + 1) (omega arith) (omega arith)
          (λ k from below. let same : k ≡ i = omega arith in and_right (in_runs p.runs k) (is_kept_in_place (class_at p.old k)) (simp same gone)))
    ]

-- the nearest strong class, where one more unit is passed
nearest-unit : (now : List BidiClass) (i m : ℕ) (strong : BidiClass) → i + m < length now
    → nearest is_strong (reverse (take (suc m) (drop i now))) strong ≡ strong_up_to (nearest is_strong (reverse (take m (drop i now))) strong) (class_at now (i + m))
nearest-unit now i m strong fits =
    let more : reverse (take (suc m) (drop i now)) ≡ get_or (drop i now) m L ∷ reverse (take m (drop i now)) = grind (arith, common_steps) in
    simp (more, get_or-drop) (nearest-more is_strong (class_at now (i + m)) (reverse (take m (drop i now))) strong)

-- units that are passed over, one after another
pub IsUnderWay-passes_all : (p : Pass) (now : List BidiClass) (w : Walk) (i run n : ℕ) → IsUnderWay p now w i → run < length p.runs
    → (get_or p.runs run (0, 0)).0 ≤ i → i + n ≤ (get_or p.runs run (0, 0)).1 → i + n ≤ length now
    → is_other w.before ≡ true → ((k : ℕ) → i ≤ k → k < i + n → is_number_or_terminator (class_at now k) ≡ false)
    → IsUnderWay p now (record { strong = nearest is_strong (reverse (take n (drop i now))) w.strong; before = w.before; first = w.first; first_run = w.first_run }) (i + n)
IsUnderWay-passes_all p now w i run zero h fits starts ends inside other none = grind arith
IsUnderWay-passes_all p now w i run (suc m) h fits starts ends inside other none =
    let so_far = IsUnderWay-passes_all p now w i run m h fits starts (omega arith) (omega arith) other (λ k from below. none k from (omega arith)) in
    let next : i + suc m ≡ i + m + 1 = omega arith in
    simp (nearest-unit now i m w.strong (omega arith), next) (IsUnderWay-passes p now _ (i + m) run so_far fits (omega arith) (omega arith) (omega (arith, so_far.long)) other (none (i + m) (omega arith) (omega arith)))

-- ---- over the runs, one after another

module _ (p : Pass) (ordered : are_ordered p.runs ≡ true) (within : All (λ (r : ℕ × ℕ). r.1 ≤ length p.old) p.runs) where
  pub IsUnderWay-first_run : IsUnderWay p p.old (record { strong = p.sos; before = Other; first = 0; first_run = 0 }) (start_or p.runs 0 (length p.old))
  IsUnderWay-first_run =
      IsUnderWay-unseen p p.old (record { strong = p.sos; before = Other; first = 0; first_run = 0 }) 0 (IsUnderWay-start p) (start_or p.runs 0 (length p.old)) (omega arith) (start_within p.runs 0 (length p.old) ordered within)
      (λ k from below. and_left (in_runs p.runs k) (is_kept_in_place (class_at p.old k)) (gap_before 0 p.runs k (length p.old) ordered below))

  pub IsUnderWay-next_run : (now : List BidiClass) (w : Walk) (index : ℕ) → index < length p.runs
      → IsUnderWay p now w (get_or p.runs index (0, 0)).1 → IsUnderWay p now w (start_or p.runs (index + 1) (length p.old))
  IsUnderWay-next_run now w index fits h =
      simp add-one (IsUnderWay-unseen p now w (get_or p.runs index (0, 0)).1 h (start_or p.runs (suc index) (length p.old)) (next_start 0 index p.runs (length p.old) ordered fits (within index (0, 0) fits)) (start_within p.runs (suc index) (length p.old) ordered within)
      (λ k from below. and_left (in_runs p.runs k) (is_kept_in_place (class_at p.old k)) (gap_after 0 index p.runs k (length p.old) ordered fits from below)))

-- where no number stands nothing is written
pub IsWalked-none : (len : ℕ → ℕ) (runs : List (Range ℕ)) (sos : BidiClass) (old : List BidiClass)
    → ((u : ℕ) → in_runs (map bounds runs) u ≡ true → is_number (class_at old u) ≡ false) → IsWalked len (map bounds runs) sos old old
IsWalked-none len runs sos old none =
    grind (arith, walked-plain old len (seen_units (map bounds runs) old) (All-seen (λ u. is_number (class_at old u) ≡ false) (map bounds runs) old none) sos Other 0)
