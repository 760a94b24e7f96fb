-- The weak passes over the units of a text: what is at the characters once all are done.
use Rattle.bidi_base.proofs.Common.{◌≡◌, ℕ, zero, suc, ◌+◌, ◌-◌, ◌<◌, ◌≤◌, Bool, true, false, List, [], length, map, get_or, refl, sym, ap, ◌∙◌, arith, inl, inr, All, filter, range_with_len}
use Rattle.bidi_base.proofs.Common.{cases_Bool, cases_eq, and_parts, and_left, and_right, length-map, is_kept_in_place, at_indexes, class_at, carried, w1_rule, w1, weak_classes, unit_index, per_unit}
use Rattle.bidi_base.proofs.Common.{IsLine, IsPerChar, are_ordered, in_runs, kept_in_place, units_in_runs, AreLines, AreWeakTypesResolved}
use Rattle.bidi_base.specs.declared.char_data.BidiClass.{BidiClass}
use Rattle.bidi_base.specs.declared.char_data.BidiClass.TheVariants.{L}
use Rattle.bidi_base.proofs.UnitIndexLemmas.{char_at-unit_index, line_unit_indexes, unit_index-more, unit_index-mono, unit_of}
use Rattle.bidi_base.proofs.TextLemmas.{HasUnits, is_boundary-le}
use Rattle.bidi_base.proofs.UnitsLemmas.{length-from_IsPerChar, is_per_char-from_IsPerChar}
use Rattle.bidi_text.proofs.PerCharTests.{class_eq, class_test}
use Rattle.bidi_base.proofs.PlacesLemmas.{length-in_context}
use Rattle.bidi_laws.proofs.ResolvedLemmas.{length-weak_classes}
use Rattle.bidi_laws.proofs.StoredLemmas.{length-at_indexes}
use Rattle.bidi_laws.proofs.RepeatedPlaces.{read_units-is, read_units-new, kept_in_place-AreIndexes, AreIndexes, units_of_chars}
use Rattle.bidi_laws.proofs.RepeatedRules.{w1-per_unit}
use Rattle.bidi_rules.specs.declared.weak.before.Before.TheVariants.{Other}
use Rattle.bidi_rules.specs.WeakPass.{left_over}
use Rattle.bidi_rules.specs.WeakWalk.{len_at, IsWhole, IsMarked, IsWalked}
use Rattle.bidi_explicit.specs.SequenceUnits.{is_seen, seen_units}
use Rattle.bidi_explicit.proofs.PassOverText.{alike_class, char_at-inside}
use Rattle.bidi_explicit.proofs.SeenUnits.{seen_units-is, ruled-places, ruled-IsPerChar, answered-IsPerChar}
use Rattle.bidi_rules.proofs.WeakPassLemmas.{after_w1-is, weak_classes-pass}
use Rattle.bidi_rules.proofs.WeakUnits.{walked-chars}

-- ---- the character that begins at a unit

module _ (len_of : ℕ → ℕ) (h : HasUnits len_of) (chars : List ℕ) where
  pub len_at-unit_index : (k : ℕ) → k < length chars → len_at len_of chars (unit_index len_of chars k) ≡ len_of (get_or chars k 0)
  len_at-unit_index k fits = grind (arith, char_at-unit_index) steps 400000

  -- in a line
  pub IsWhole-line : (classes : List BidiClass) → IsPerChar len_of chars classes → (start end : ℕ) → IsLine len_of chars start end
      → (u : ℕ) → start ≤ u → u < end → IsWhole (len_at len_of chars) classes end u
  IsWhole-line classes per start end line u from below =
      let w = unit_of len_of chars u (omega (arith, is_boundary-le len_of chars end line.ends)) in
      let k = w.index in
      let at = w.at_place in
      elim (cases_eq w.offset 0) [
        | inl first ↦
            let begins : u ≡ unit_index len_of chars k = omega arith in
            let size : len_at len_of chars u ≡ len_of (get_or chars k 0) = ap (len_at len_of chars) begins ∙ len_at-unit_index k w.within in
            let more = unit_index-more len_of chars k 0 w.within in
            let ends = (line_unit_indexes len_of h chars start end line).ends in
            record {
              some = omega (arith, h (get_or chars k 0));
              within = grind (arith, unit_index-mono);
              alike = λ v a b. grind (arith, alike_class);
            }
        | inr later ↦ grind (arith, char_at-inside)
      ]

-- ---- the passes, one after another

-- a class that is changed by itself where a unit is marked
at_marked-map : (f : BidiClass → BidiClass) (mark : ℕ → Bool) (xs ys : List BidiClass) (low n : ℕ)
    → ((k : ℕ) → mark k ≡ true → class_at xs k ≡ f (class_at ys k))
    → at_indexes L xs (filter mark (range_with_len low n)) ≡ map f (at_indexes L ys (filter mark (range_with_len low n)))
at_marked-map f mark xs ys low zero h = refl
at_marked-map f mark xs ys low (suc n) h = grind (
  arith,
  cases_Bool (mark low),
  h low,
  at_marked-map f mark xs ys (low + 1) n h,
)

module _ (len_of : ℕ → ℕ) (h : HasUnits len_of) (chars : List ℕ) (runs : List (ℕ × ℕ)) (lines : AreLines len_of chars runs) (ordered : are_ordered runs ≡ true) (sos : BidiClass) where
  pub lines-within : (classes : List BidiClass) → IsPerChar len_of chars classes → All (λ r. r.1 ≤ length classes) runs
  lines-within classes per = grind (arith, length-from_IsPerChar, is_boundary-le)

  module _ (old : List BidiClass) (per : IsPerChar len_of chars old) (c1 : List BidiClass) (marks : IsMarked runs (carried sos) old c1) where
    w1-is : at_indexes L c1 (seen_units runs old) ≡ w1 sos (at_indexes L old (seen_units runs old))
    w1-is = marks.answers ∙ sym (after_w1-is sos (carried sos) [] (at_indexes L old (seen_units runs old)) refl)

    marked-places : (let places = map (unit_index len_of chars) (kept_in_place len_of chars old runs) in at_indexes L c1 places ≡ w1 sos (at_indexes L old places))
    marked-places =
        ruled-places len_of h chars old per runs lines ordered (lines-within old per) (w1 sos) (length-in_context (w1_rule sos) []) (λ ds cs some long. w1-per_unit len_of ds cs some long sos) c1 w1-is

    pub marked-IsPerChar : IsPerChar len_of chars c1
    marked-IsPerChar =
        ruled-IsPerChar len_of h chars old per runs lines ordered (lines-within old per) (w1 sos) (length-in_context (w1_rule sos) []) (λ ds cs some long. w1-per_unit len_of ds cs some long sos) c1 w1-is marks.long marks.unseen

    module _ (c2 c3 : List BidiClass) (numbers : IsWalked (len_at len_of chars) runs sos c1 c2)
        (changed : (u : ℕ) → in_runs runs u ≡ true → class_at c3 u ≡ left_over (class_at c2 u)) (same : (u : ℕ) → in_runs runs u ≡ false → class_at c3 u ≡ class_at c2 u) (long : length c3 ≡ length c2) where
      abbrev ks : List ℕ
      ks = kept_in_place len_of chars old runs

      abbrev answers : List BidiClass
      answers = weak_classes sos (at_indexes L old (map (unit_index len_of chars) ks))

      seen-same : seen_units runs c1 ≡ seen_units runs old
      seen-same = grind arith

      -- nothing else is written
      unseen : (u : ℕ) → is_seen runs old u ≡ false → class_at c3 u ≡ class_at old u
      unseen u none = grind arith

      -- at the units stands what the characters get
      at_units : at_indexes L c3 (filter (λ u. is_kept_in_place (class_at old u)) (units_in_runs runs)) ≡ per_unit len_of (at_indexes 0 chars ks) answers
      at_units =
          let us = filter (λ u. is_kept_in_place (class_at old u)) (units_in_runs runs) in
          let is : seen_units runs old ≡ us = seen_units-is old runs ordered (lines-within old per) in
          let cs = at_indexes L old (map (unit_index len_of chars) ks) in
          simp (← is) (at_marked-map left_over (is_seen runs old) c3 c2 0 (length old - 0) (λ u seen. changed u (and_parts (in_runs runs u) (is_kept_in_place (class_at old u)) seen).0))
          ∙ simp seen-same at numbers.answers
          ∙ simp (is, units_are, weak_classes-pass sos cs) (simp marked-places at (walked-chars len_of h chars c1 (len_at len_of chars) alike (len_at-unit_index len_of h chars) ks indexes [] sos Other))
        where
          units_are : filter (λ u. is_kept_in_place (class_at old u)) (units_in_runs runs) ≡ units_of_chars len_of chars ks
          units_are = simp per.2 (read_units-is len_of h chars per.0 per.1 runs lines)

          indexes : AreIndexes chars ks
          indexes = simp per.2 (kept_in_place-AreIndexes len_of h chars per.0 per.1 runs lines)

          alike : (k j : ℕ) → k < length chars → j < len_of (get_or chars k 0) → class_at c1 (unit_index len_of chars k + j) ≡ class_at c1 (unit_index len_of chars k)
          alike k j fits below = let more = unit_index-more len_of chars k 0 fits in alike_class len_of h chars c1 marked-IsPerChar k (unit_index len_of chars k + j) fits (omega arith) (omega arith)

      many : length answers ≡ length ks
      many = length-weak_classes sos (at_indexes L old (map (unit_index len_of chars) ks)) ∙ length-at_indexes L old (map (unit_index len_of chars) ks) ∙ length-map ks (unit_index len_of chars)

      pub AreWeakTypesResolved-passes : AreWeakTypesResolved len_of chars runs sos old c3
      AreWeakTypesResolved-passes = record {
        kept = rw per.2 (let us = per_unit len_of chars per.0 in read_units-new len_of h chars per.0 per.1 runs lines c3 (weak_classes sos (at_indexes L us (map (unit_index len_of chars) (kept_in_place len_of chars us runs)))) (rw per.2 at many) (rw per.2 at at_units));
        in_place = record {
          removed = λ u is. unseen u (and_right (in_runs runs u) (is_kept_in_place (class_at old u)) (ap is_kept_in_place is)) ∙ is;
          outside = λ u out. unseen u (and_left (in_runs runs u) (is_kept_in_place (class_at old u)) out);
          per_char = is_per_char-from_IsPerChar class_eq class_test len_of chars c3
              (answered-IsPerChar len_of h chars old per runs lines ordered (lines-within old per) c3 answers many at_units (long ∙ numbers.long ∙ marks.long) unseen);
        };
      }
