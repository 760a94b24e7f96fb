-- N1 for the direction against the embedding one, in one walk: neutrals wait from a class of that direction to the next
-- class with one.
use Rattle.bidi_base.proofs.Common.{◌≡◌, ℕ, zero, suc, ◌+◌, ◌-◌, ◌<◌, ◌≤◌, Bool, true, false, not, ◌&&◌, List, [], ◌∷◌, ◌++◌, length, map, replicate, Some, refl, ap, ◌∙◌}
use Rattle.bidi_base.proofs.Common.{arith, append_assoc, append-nil, ◌⊎◌, filter, list_all, range_with_len, cases_Bool, cases_lt, map-append, as_direction, is_l_or_r}
use Rattle.bidi_base.proofs.Common.{is_ni, is_weak_resolved, stands_for, nearest_direction, n1_n2, n2_rule, at_indexes, class_at, in_runs}
use Rattle.bidi_base.specs.declared.char_data.BidiClass.{BidiClass}
use Rattle.bidi_base.specs.declared.char_data.BidiClass.TheVariants.{L}
use Rattle.bidi_laws.proofs.NeutralBlocks.{common}
use Rattle.bidi_laws.proofs.NeutralStretches.{n1_n2-neutrals, n1_n2-directed, n1_n2-last}
use Rattle.bidi_laws.proofs.StoredLemmas.{at_indexes-append, length-at_indexes}
use Rattle.bidi_rules.specs.JoinPass.{side_before, Unjoined, IsJoined}
use Rattle.bidi_rules.specs.PairPass.{opposite_of}
use Rattle.bidi_explicit.specs.SequenceUnits.{is_seen, IsWrittenOver}
use Rattle.bidi_explicit.proofs.Marks.{marked, marked-parts, at_marked-same, at_marked-all}

-- ---- classes

-- what does not stand for the opposite direction stands for the embedding one, or is a neutral
inert : (e c : BidiClass) → is_l_or_r e ≡ true → (is_weak_resolved c && not (stands_for (opposite_of e) c)) ≡ true → (as_direction c ≡ Some e) ⊎ (is_ni c ≡ true)
inert e c s h = grind arith

pub opposite-directed : (e c : BidiClass) → stands_for (opposite_of e) c ≡ true → as_direction c ≡ Some (opposite_of e)
opposite-directed e c n = grind arith

pub n2-opposite : (e : BidiClass) → n2_rule e (opposite_of e) ≡ opposite_of e
n2-opposite e = grind arith

-- ---- lists of classes

module _ (e eos : BidiClass) (side : is_l_or_r e ≡ true) where
  abbrev o : BidiClass
  o = opposite_of e

  abbrev is_inert : BidiClass → Bool
  is_inert c = is_weak_resolved c && not (stands_for o c)

  same_e : (x : BidiClass) → common e e x ≡ e
  same_e x = grind arith steps 400000

  common_apart : common e o e ≡ e
  common_apart = grind arith

  common_opposite : common e o o ≡ o
  common_opposite = grind arith

  map-n2 : (cs : List BidiClass) → list_all is_ni cs ≡ true → map (n2_rule e) cs ≡ replicate (length cs) e
  map-n2 [] h = refl
  map-n2 (c ∷ cs) h = grind (arith, map-n2 cs)

  map-opposite : (n : ℕ) → map (n2_rule e) (replicate n o) ≡ replicate n o
  map-opposite zero = refl
  map-opposite (suc n) = simp (n2-opposite e, map-opposite n)

  -- after the embedding direction, up to the next class for the opposite one
  inert-rest : (cs rest : List BidiClass) → list_all is_inert cs ≡ true → n1_n2 e e eos (cs ++ rest) ≡ map (n2_rule e) cs ++ n1_n2 e e eos rest
  inert-rest [] rest h = refl
  inert-rest (c ∷ cs) rest h = grind (arith, inert e c side, inert-rest cs rest, n1_n2-directed e e e eos c (cs ++ rest), n1_n2-neutrals e e eos (c ∷ []) (cs ++ rest), same_e)

  near : (d c : BidiClass) (rest : List BidiClass) → as_direction c ≡ Some d → nearest_direction eos (c ∷ rest) ≡ d
  near d c rest is = grind arith steps 400000

  -- neutrals that waited, before the embedding direction
  turned : (cs rest : List BidiClass) (c : BidiClass) → list_all is_ni cs ≡ true → as_direction c ≡ Some e → n1_n2 e o eos (cs ++ c ∷ rest) ≡ map (n2_rule e) cs ++ n1_n2 e e eos (c ∷ rest)
  turned cs rest c h is =
      simp (n1_n2-neutrals e o eos cs (c ∷ rest) h, near e c rest is, common_apart, map-n2 cs h, n1_n2-directed e o e eos c rest is, n1_n2-directed e e e eos c rest is)

  -- neutrals between two of the opposite direction
  between_two : (cs rest : List BidiClass) (c : BidiClass) → list_all is_ni cs ≡ true → as_direction c ≡ Some o
      → n1_n2 e o eos (cs ++ c ∷ rest) ≡ replicate (length cs) o ++ n1_n2 e o eos (c ∷ rest)
  between_two cs rest c h is = grind (arith, n1_n2-neutrals)

  -- a stretch of the opposite direction, whatever stands before it
  stretch : (left : BidiClass) (c : BidiClass) (cs rest : List BidiClass) → list_all (stands_for o) (c ∷ cs) ≡ true → n1_n2 e left eos (c ∷ cs ++ rest) ≡ map (n2_rule e) (c ∷ cs) ++ n1_n2 e o eos rest
  stretch left c [] rest h = grind (arith, n1_n2-directed)
  stretch left c (d ∷ cs) rest h = grind (arith, opposite-directed e c, n1_n2-directed e left o eos c (d ∷ cs ++ rest), stretch o d cs rest)

-- ---- the same at units

module _ (mark : ℕ → Bool) (p : BidiClass → Bool) (old : List BidiClass) where
  each : (low n : ℕ) → ((k : ℕ) → low ≤ k → k < low + n → mark k ≡ true → p (class_at old k) ≡ true) → list_all p (at_indexes L old (filter mark (range_with_len low n))) ≡ true
  each low zero h = refl
  each low (suc n) h = grind (arith, cases_Bool (mark low), h low, each (low + 1) n (λ k from below is. h k (omega arith) (omega arith) is))

  pub at_marked-each : (low high : ℕ) → ((k : ℕ) → low ≤ k → k < high → mark k ≡ true → p (class_at old k) ≡ true) → list_all p (at_indexes L old (marked mark low high)) ≡ true
  at_marked-each low high h = each low (high - low) (λ k from below is. h k from (omega arith) is)

-- a unit keeps its class, or has one that was written over some units
pub own-after : (mark : ℕ → Bool) (d : BidiClass) (from to : ℕ) (old now new : List BidiClass) → IsWrittenOver mark d from to now new
    → ((k : ℕ) → (class_at now k ≡ class_at old k) ⊎ (class_at now k ≡ d))
    → (k : ℕ) → (class_at new k ≡ class_at old k) ⊎ (class_at new k ≡ d)
own-after mark d from to old now new w own k = grind (arith, own k, cases_Bool (mark k), cases_lt k from, cases_lt k to)

-- ---- the steps of the walk

module _ (s : Unjoined) where
  abbrev e : BidiClass
  e = s.e

  abbrev against : BidiClass
  against = opposite_of s.e

  abbrev mark : ℕ → Bool
  mark k = is_seen s.runs s.old k

  abbrev at_old : ℕ → ℕ → List BidiClass
  at_old low high = at_indexes L s.old (marked mark low high)

  abbrev size : ℕ
  size = length s.old

  abbrev rest_of : Bool → ℕ → List BidiClass
  rest_of waits low = n1_n2 e (side_before s waits) s.eos (at_old low size)

  abbrev done_with : List BidiClass → ℕ → List BidiClass
  done_with now high = map (n2_rule e) (at_indexes L now (marked mark 0 high))

  abbrev goal : List BidiClass
  goal = n1_n2 e s.sos s.eos (at_old 0 size)

  split : (xs : List BidiClass) (low mid high : ℕ) → low ≤ mid → mid ≤ high → at_indexes L xs (marked mark low high) ≡ at_indexes L xs (marked mark low mid) ++ at_indexes L xs (marked mark mid high)
  split xs low mid high a b = ap (at_indexes L xs) (marked-parts mark low mid high a b) ∙ at_indexes-append L xs (marked mark low mid) (marked mark mid high)

  done-more : (now : List BidiClass) (done to : ℕ) → done ≤ to → done_with now to ≡ done_with now done ++ map (n2_rule e) (at_indexes L now (marked mark done to))
  done-more now done to a = ap (map (n2_rule e)) (split now 0 done to (omega arith) a) ∙ map-append (n2_rule e) (at_indexes L now (marked mark 0 done)) (at_indexes L now (marked mark done to))

  -- ---- a step that leaves the units of `now` from `done` on as they are, and reads those up to `to`
  read : (now : List BidiClass) (waits after : Bool) (done at to : ℕ) → done ≤ to → to ≤ size → IsJoined s now waits done at
      → rest_of waits done ≡ map (n2_rule e) (at_old done to) ++ rest_of after to → IsJoined s now after to to
  read now waits after done at to a b j step =
      grind (arith, done-more now done to a, append_assoc, at_marked-same mark now s.old done to)

  -- more neutrals, or units that are none of the sequence
  pub IsJoined-more : (now : List BidiClass) (waits : Bool) (done at to : ℕ) → at ≤ to
      → ((k : ℕ) → at ≤ k → k < to → mark k ≡ true → is_ni (class_at s.old k) ≡ true) → IsJoined s now waits done at
      → IsJoined s now waits done to
  IsJoined-more now waits done at to upto more j = grind arith

  waited : (now : List BidiClass) (waits : Bool) (done at : ℕ) → IsJoined s now waits done at → list_all is_ni (at_old done at) ≡ true
  waited now waits done at j = at_marked-each mark is_ni s.old done at j.waiting

  -- after the embedding direction: units that don't stand for the opposite one
  pub IsJoined-inert : (now : List BidiClass) (done at to : ℕ) → at ≤ to → to ≤ size
      → ((k : ℕ) → at ≤ k → k < to → stands_for against (class_at s.old k) ≡ false) → IsJoined s now false done at → IsJoined s now false to to
  IsJoined-inert now done at to upto fits none j =
      read now false false done at to (omega (arith, j.order)) fits j
      (ap (n1_n2 e e s.eos) (split s.old done to size (omega (arith, j.order)) fits)
      ∙ inert-rest e s.eos s.side (at_old done to) (at_old to size)
      (at_marked-each mark (λ c. is_weak_resolved c && not (stands_for against c)) s.old done to
      (λ k from below is. grind (arith, s.resolved k is, cases_lt k at, j.waiting k from, none k))))

  -- the class at hand, and those after it
  first_at : (at : ℕ) → at < size → mark at ≡ true → at_old at size ≡ class_at s.old at ∷ at_old (at + 1) size
  first_at at fits is = grind arith

  seen-directed : (at : ℕ) (d : BidiClass) → in_runs s.runs at ≡ true → as_direction (class_at s.old at) ≡ Some d → mark at ≡ true
  seen-directed at d inside is = grind arith steps 400000

  -- the embedding direction comes
  pub IsJoined-turned : (now : List BidiClass) (done at : ℕ) → at < size → in_runs s.runs at ≡ true
      → as_direction (class_at s.old at) ≡ Some e → IsJoined s now true done at → IsJoined s now false at at
  IsJoined-turned now done at fits inside is j =
      let turn = turned e s.eos s.side (at_old done at) (at_old (at + 1) size) (class_at s.old at)
      (waited now true done at j) is in
      read now true false done at at j.order (omega arith) j (simp (
        split s.old done at size j.order (omega arith),
        first_at at fits (seen-directed at e inside is),
        turn,
      ))

  -- what is written to units
  row-written : (now new : List BidiClass) (from to : ℕ) → IsWrittenOver mark against from to now new
      → (done_with new from ≡ done_with now from) × (map (n2_rule e) (at_indexes L new (marked mark from to)) ≡ replicate (length (at_old from to)) against)
  row-written now new from to w = grind (arith, at_marked-same, at_marked-all, length-at_indexes, map-opposite)

  -- the opposite direction comes, and is written to what waits
  pub IsJoined-decided : (now new : List BidiClass) (done at : ℕ) → at < size → in_runs s.runs at ≡ true
      → as_direction (class_at s.old at) ≡ Some against → IsWrittenOver mark against done at now new → IsJoined s now true done at
      → IsJoined s new true at at
  IsJoined-decided now new done at fits inside is w j =
      let first = first_at at fits (seen-directed at against inside is) in
      let between = between_two e s.eos s.side (at_old done at) (at_old (at + 1) size) (class_at s.old at) (waited now true done at j) is in
      let row = row-written now new done at w in
      let written : done_with new at ++ rest_of true at ≡ goal =
      simp (
        done-more new done at j.order,
        append_assoc,
        row.0,
        row.1,
        ← j.written,
        split s.old done at size j.order (omega arith),
        first,
        between,
      ) in
      grind (arith, own-after mark against done at s.old now new w j.own)

  -- a stretch of the opposite direction; among its units some may be none of the sequence
  pub IsJoined-stretch : (now : List BidiClass) (waits : Bool) (at to : ℕ) → at < to → to ≤ size → in_runs s.runs at ≡ true → stands_for against (class_at s.old at) ≡ true
      → ((k : ℕ) → at ≤ k → k < to → mark k ≡ true → stands_for against (class_at s.old k) ≡ true) → IsJoined s now waits at at → IsJoined s now true to to
  IsJoined-stretch now waits at to some fits inside here all j =
      let parts : at_old at to ≡ class_at s.old at ∷ at_old (at + 1) to = grind (arith, seen-directed at against inside, opposite-directed e (class_at s.old at) here) in
      let each = simp parts at (at_marked-each mark (stands_for against) s.old at to all) in
      let row = stretch e s.eos s.side (side_before s waits) (class_at s.old at) (at_old (at + 1) to)
      (at_old to size) each in
      read now waits true at at to (omega arith) fits j (simp (split s.old at to size (omega arith) fits, parts, row))

  -- ---- the end

  none-left : at_old size size ≡ []
  none-left = grind arith steps 400000

  -- nothing waits
  pub finished-inert : (now : List BidiClass) (done : ℕ) → IsJoined s now false done size → done_with now size ≡ goal
  finished-inert now done j =
      simp (none-left, append-nil) at (IsJoined-inert now done size size (omega arith) (omega arith) (λ k a b. absurd (omega arith)) j).written

  -- the embedding direction stands after what waits
  pub finished-embedding : (now : List BidiClass) (done : ℕ) → s.eos ≡ e → IsJoined s now true done size → done_with now size ≡ goal
  finished-embedding now done is j =
      let wait = waited now true done size j in
      let step : rest_of true done ≡ map (n2_rule e) (at_old done size) = grind (
        arith,
        n1_n2-last e against s.eos (at_old done size) wait,
        common_apart e s.eos s.side,
        map-n2 e s.eos s.side,
      ) in
      simp (done-more now done size j.order, at_marked-same mark now s.old done size (λ k from below seen. j.unwritten k from), ← step, j.written)

  -- the opposite one does, and is written to it
  pub finished-opposite : (now new : List BidiClass) (done : ℕ) → s.eos ≡ against → IsWrittenOver mark against done size now new → IsJoined s now true done size → done_with new size ≡ goal
  finished-opposite now new done is w j =
      let cs = at_old done size in
      let step : rest_of true done ≡ replicate (length cs) against = n1_n2-last e against s.eos cs (waited now true done size j) ∙ simp (is, common_opposite e s.eos s.side) in
      simp (done-more new done size j.order, (row-written now new done size w).0, (row-written now new done size w).1, ← step, j.written)
