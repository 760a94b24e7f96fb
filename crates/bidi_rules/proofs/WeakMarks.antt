-- W1 over units, one after another.
use Rattle.bidi_base.proofs.Common.{◌≡◌, ℕ, zero, suc, ◌+◌, ◌-◌, ◌<◌, ◌≤◌, Bool, true, false, List, [], ◌∷◌, ◌++◌, length, map, get_or, set, refl, sym, ap, ◌∙◌, arith, inl, inr, append_assoc}
use Rattle.bidi_base.proofs.Common.{append-nil, length-take, length-drop, get_or-set_same, get_or-set_other, All, filter, slice_range, list_any, range_with_len, reverse, take, drop, if◌then◌else◌}
use Rattle.bidi_base.proofs.Common.{nearest, common_steps, Range, All-nil, All-cons, All-head, All-tail, list_any_at, cases_eq, cases_Bool, both_ways, and_from, and_parts, and_left, and_right}
use Rattle.bidi_base.proofs.Common.{are_ordered, bounds, in_runs, is_kept_in_place, is_nsm, at_indexes, class_at, carried, length-set, get_or-take, get_or-drop, set-get_or}
use Rattle.std.proofs.Math.Numerals.{add-one}
use Rattle.bidi_base.specs.declared.char_data.BidiClass.{BidiClass}
use Rattle.bidi_base.specs.declared.char_data.BidiClass.TheVariants.{L}
use Rattle.bidi_laws.proofs.StoredLemmas.{at_indexes-append}
use Rattle.bidi_rules.specs.WeakPass.{marked, after_w1}
use Rattle.bidi_rules.specs.WeakWalk.{part_of, is_any, is_any_of, blocks_of, is_any_in_blocks, AreMarked, IsMarked}
use Rattle.bidi_explicit.specs.SequenceUnits.{is_seen, seen_from, seen_units}
use Rattle.bidi_rules.proofs.FoldAny.{fold_any}
use Rattle.bidi_explicit.proofs.InRuns.{in_run-true, start_or, start_within, gap_before, gap_after, next_start}
use Rattle.bidi_explicit.proofs.Marks.{marked-parts, marked-empty, marked-one, at_marked-same}

carried-kept : (c : BidiClass) → is_kept_in_place c ≡ true → is_kept_in_place (carried c) ≡ true
carried-kept c h = grind arith

marked-kept : (m c : BidiClass) → is_kept_in_place m ≡ true → is_kept_in_place (marked m c) ≡ is_kept_in_place c
marked-kept m c h = grind arith

marked-other : (m c : BidiClass) → is_nsm c ≡ false → marked m c ≡ c
marked-other m c none = grind arith

-- the class that a mark takes, where one more unit is passed
nearest-first : (test : BidiClass → Bool) (c : BidiClass) (cs : List BidiClass) (d : BidiClass) → nearest test (c ∷ cs) d ≡ (if test c then c else nearest test cs d)
nearest-first test c cs d = grind (arith, cases_Bool (test c))

nearest-kept : (now : List BidiClass) (i m : ℕ) (last : BidiClass) → i + m < length now
    → nearest is_kept_in_place (reverse (take (suc m) (drop i now))) last
    ≡ (if is_kept_in_place (class_at now (i + m)) then class_at now (i + m) else nearest is_kept_in_place (reverse (take m (drop i now))) last)
nearest-kept now i m last fits =
    let more : reverse (take (suc m) (drop i now)) ≡ get_or (drop i now) m L ∷ reverse (take m (drop i now)) = grind (arith, common_steps) in
    simp (more, get_or-drop) (nearest-first is_kept_in_place (class_at now (i + m)) (reverse (take m (drop i now))) last)

module _ (runs : List (ℕ × ℕ)) (sos : BidiClass) (old : List BidiClass) where
  pub AreMarked-start : is_kept_in_place sos ≡ true → AreMarked runs sos old old sos 0
  AreMarked-start kept = grind arith steps 400000

  module _ (now : List BidiClass) (mark : BidiClass) (i : ℕ) (h : AreMarked runs sos old now mark i) where
    abbrev us : ℕ → ℕ → List ℕ
    us low high = seen_from runs old low high

    -- units that are not seen
    pub AreMarked-unseen : (j : ℕ) → i ≤ j → j ≤ length old → ((k : ℕ) → i ≤ k → k < j → is_seen runs old k ≡ false) → AreMarked runs sos old now mark j
    AreMarked-unseen j order fits none =
        grind (arith, h, marked-parts (is_seen runs old) 0 i j, marked-parts (is_seen runs old) i j (length old), marked-empty (is_seen runs old) i j, append-nil)

    -- a unit that is seen
    pub AreMarked-more : i < length old → is_seen runs old i ≡ true → AreMarked runs sos old (set now i (marked mark (class_at now i))) (carried (marked mark (class_at now i))) (i + 1)
    AreMarked-more fits is =
        let x = class_at now i in
        let own = marked mark x in
        let new = set now i own in
        let read : x ≡ class_at old i = h.unread i (omega arith) in
        let within : i < length now = omega (arith, h.long) in
        let one : us i (i + 1) ≡ i ∷ [] = marked-one (is_seen runs old) i (i + 1) (omega arith) is (λ k above below. absurd (omega arith)) in
        let front = at_marked-same (is_seen runs old) new now 0 i (λ k from below seen. get_or-set_other now i k own L (omega arith)) in
        let done : at_indexes L new (us 0 (i + 1)) ≡ at_indexes L now (us 0 i) ++ own ∷ [] =
        simp (marked-parts (is_seen runs old) 0 i (i + 1) (omega arith) (omega arith), one, at_indexes-append, front, get_or-set_same now i own L within) in
        let later : us i (length old) ≡ i ∷ us (i + 1) (length old) = simp (marked-parts (is_seen runs old) i (i + 1) (length old) (omega arith) (omega arith), one) in
        record {
          answers = simp (done, append_assoc) (simp read (simp later at h.answers));
          unread = λ k from. get_or-set_other now i k own L (omega arith) ∙ h.unread k (omega arith);
          unseen = λ k none. get_or-set_other now i k own L (λ same. both_ways (is_seen runs old i) (sym (ap (is_seen runs old) same) ∙ none) is) ∙ h.unseen k none;
          kept = λ k. elim (cases_eq k i) [
            | inl same ↦ simp (same, get_or-set_same now i own L within, marked-kept mark x h.takes) (ap is_kept_in_place read)
            | inr other ↦ simp (get_or-set_other now i k own L other, h.kept k)
          ];
          takes = carried-kept own (marked-kept mark x h.takes ∙ ap is_kept_in_place read ∙ (and_parts (in_runs runs i) (is_kept_in_place (class_at old i)) is).1);
          inside = omega arith;
          long = length-set now i own ∙ h.long;
        }

  -- units that are no marks
  pub AreMarked-passes : (now : List BidiClass) (last : BidiClass) (i n : ℕ) → AreMarked runs sos old now (carried last) i → i + n ≤ length old
      → ((k : ℕ) → i ≤ k → k < i + n → (in_runs runs k ≡ true) × (is_nsm (class_at now k) ≡ false))
      → AreMarked runs sos old now (carried (nearest is_kept_in_place (reverse (take n (drop i now))) last)) (i + n)
  AreMarked-passes now last i zero h fits none = grind arith
  AreMarked-passes now last i (suc m) h fits none =
      let so_far = AreMarked-passes now last i m h (omega arith) (λ k from below. none k from (omega arith)) in
      let u = i + m in
      let c = class_at now u in
      let here = none u (omega arith) (omega arith) in
      let read : c ≡ class_at old u = h.unread u (omega arith) in
      let next : u + 1 ≡ i + suc m = omega arith in
      let before = nearest is_kept_in_place (reverse (take m (drop i now))) last in
      simp (nearest-kept now i m last (omega (arith, h.long))) (elim (cases_Bool (is_kept_in_place c)) [
        | inl kept ↦
            let seen = and_from (in_runs runs u) (is_kept_in_place (class_at old u)) here.0 (sym (ap is_kept_in_place read) ∙ kept) in
            simp kept (simp (marked-other (carried before) c here.1, set-get_or now u L, next) at (AreMarked-more now (carried before) u so_far (omega arith) seen))
        | inr gone ↦
            simp gone (simp next at (AreMarked-unseen now (carried before) u so_far (u + 1) (omega arith) (omega arith)
            (λ k from below. let same : k ≡ u = omega arith in and_right (in_runs runs k) (is_kept_in_place (class_at old k)) (ap (λ (j : ℕ). is_kept_in_place (class_at old j)) same ∙ sym (ap is_kept_in_place read) ∙ gone))))
      ])

  -- over the runs, one after another
  module _ (ordered : are_ordered runs ≡ true) (within : All (λ (r : ℕ × ℕ). r.1 ≤ length old) runs) where
    pub AreMarked-first_run : is_kept_in_place sos ≡ true → AreMarked runs sos old old sos (start_or runs 0 (length old))
    AreMarked-first_run kept =
        AreMarked-unseen old sos 0 (AreMarked-start kept) (start_or runs 0 (length old)) (omega arith)
        (start_within runs 0 (length old) ordered within) (λ k from below. grind (arith, gap_before))

    pub AreMarked-next_run : (now : List BidiClass) (mark : BidiClass) (index : ℕ) → index < length runs
        → AreMarked runs sos old now mark (get_or runs index (0, 0)).1 → AreMarked runs sos old now mark (start_or runs (index + 1) (length old))
    AreMarked-next_run now mark index fits h =
        simp add-one (AreMarked-unseen now mark (get_or runs index (0, 0)).1 h (start_or runs (suc index) (length old)) (next_start 0 index runs (length old) ordered fits (within index (0, 0) fits)) (start_within runs (suc index) (length old) ordered within)
        (λ k from below. and_left (in_runs runs k) (is_kept_in_place (class_at old k)) (gap_after 0 index runs k (length old) ordered fits from below)))

-- ---- where no class passes a test

in_part : (test : BidiClass → Bool) (classes : List BidiClass) (start end u : ℕ) → end ≤ length classes → start ≤ u → u < end
    → list_any test (slice_range classes start end) ≡ false → test (class_at classes u) ≡ false
in_part test classes start end u fits from below none =
    grind (arith, list_any_at test (slice_range classes start end) (u - start) L, get_or-take, get_or-drop, length-take, length-drop)

-- none passes in parts of the runs that have all their units
none_in : (part : List BidiClass → ℕ × ℕ → List BidiClass) (test : BidiClass → Bool) (classes : List BidiClass)
    → ((r : ℕ × ℕ) (u : ℕ) → r.1 ≤ length classes → r.0 ≤ u → u < r.1 → list_any test (part classes r) ≡ false → test (class_at classes u) ≡ false)
    → (runs : List (Range ℕ)) → All (λ r. r.1 ≤ length classes) (map bounds runs) → list_any (λ run. is_any_of test (part classes (bounds run))) runs ≡ false → (u : ℕ) → in_runs (map bounds runs) u ≡ true → test (class_at classes u) ≡ false
none_in part test classes at [] within none u inside = absurd (both_ways false refl inside)
none_in part test classes at (r ∷ runs) within none u inside =
    let first = All-head (λ (q : ℕ × ℕ). q.1 ≤ length classes) (bounds r) (map bounds runs) within in
    let others = All-tail (λ (q : ℕ × ℕ). q.1 ≤ length classes) (bounds r) (map bounds runs) within in
    grind (arith, at (bounds r) u first, in_run-true (bounds r) u, fold_any test (part classes (bounds r)), none_in part test classes at runs others)

pub is_any-none : (test : BidiClass → Bool) (runs : List (Range ℕ)) (classes : List BidiClass)
    → All (λ r. r.1 ≤ length classes) (map bounds runs) → is_any test runs classes ≡ false → (u : ℕ) → in_runs (map bounds runs) u ≡ true
    → test (class_at classes u) ≡ false
is_any-none test runs classes within none = none_in part_of test classes (λ r u fits from below none. grind (arith, in_part)) runs within none

pub is_any_in_blocks-none : (test : BidiClass → Bool) (runs : List (Range ℕ)) (classes : List BidiClass)
    → All (λ r. r.1 ≤ length classes) (map bounds runs) → is_any_in_blocks test runs classes ≡ false → (u : ℕ) → in_runs (map bounds runs) u ≡ true
    → test (class_at classes u) ≡ false
is_any_in_blocks-none test runs classes within none = none_in blocks_of test classes (λ r u fits from below none. grind (arith, in_part)) runs within none

-- so of the units that are seen
pub All-seen : (P : ℕ → Type 0) (runs : List (ℕ × ℕ)) (classes : List BidiClass) → ((u : ℕ) → in_runs runs u ≡ true → P u) → All P (seen_units runs classes)
All-seen P runs classes each = over 0 (length classes - 0)
  where
    over : (low n : ℕ) → All P (filter (is_seen runs classes) (range_with_len low n))
    over low zero = All-nil P
    over low (suc n) = grind (arith, cases_Bool (is_seen runs classes low), All-cons, each low, over (low + 1) n)

after_w1-none : (classes : List BidiClass) (us : List ℕ) (mark : BidiClass) → All (λ u. is_nsm (class_at classes u) ≡ false) us → after_w1 mark (at_indexes L classes us) ≡ at_indexes L classes us
after_w1-none classes [] mark none = refl
after_w1-none classes (u ∷ us) mark none =
    grind (arith, All-head (λ u. is_nsm (class_at classes u) ≡ false) u us none, after_w1-none classes us (carried (class_at classes u)) (All-tail (λ u. is_nsm (class_at classes u) ≡ false) u us none))

pub IsMarked-none : (runs : List (Range ℕ)) (sos : BidiClass) (old : List BidiClass)
    → ((u : ℕ) → in_runs (map bounds runs) u ≡ true → is_nsm (class_at old u) ≡ false) → IsMarked (map bounds runs) sos old old
IsMarked-none runs sos old none =
    grind (arith, after_w1-none old (seen_units (map bounds runs) old) sos (All-seen (λ u. is_nsm (class_at old u) ≡ false) (map bounds runs) old none))
