-- Sequences whose levels can be read off their classes.
use Rattle.bidi_base.proofs.Common.{◌≡◌, ℕ, zero, suc, ◌-◌, ◌<◌, ◌≤◌, Bool, true, false, not, ◌&&◌, List, [], ◌∷◌, length, get_or, map, find, Some, refl, sym, ap, arith, nat_lt, All}
use Rattle.bidi_base.proofs.Common.{list_all, and_parts, and_from, All-head, All-tail, All-map, bounds, are_ordered, is_l_or_r, is_en, is_kept, is_nsm}
use Rattle.bidi_base.proofs.Common.{is_kept_in_place, is_weak_resolved, in_context, w1_rule, w2_rule, w3_rule, w4_rule, w5_rule, w6_rule, w7_rule, weak_classes, class_at, at_indexes, text_len}
use Rattle.bidi_base.proofs.Common.{unit_index, in_runs, units_in_runs, chars_in_runs, kept_in_place, AreLines, is_per_char, ◌⊎◌, inl, inr, get_or_past, first_or, indexes, n0, n1_rule}
use Rattle.bidi_base.proofs.Common.{neutral_classes, ◌∙◌, level_at, direction_of, ◌==◌, filter_map, fold, Option, None, counted_brackets, bracket_at, with_closing, closed_pairs, bracket_limit}
use Rattle.bidi_base.proofs.Common.{pairs_of, bracket_pairs}
use Rattle.bidi_base.specs.declared.data_source.BidiMatchedOpeningBracket.{BidiMatchedOpeningBracket}
use Rattle.bidi_base.specs.declared.char_data.BidiClass.{BidiClass}
use Rattle.bidi_base.specs.declared.char_data.BidiClass.TheVariants.{L, AL, EN, ES, ET, AN, CS, NSM, R}
use Rattle.bidi_base.proofs.TextLemmas.{HasUnits, is_boundary-le}
use Rattle.bidi_base.proofs.UnitsLemmas.{IsPerChar-from_is_per_char}
use Rattle.bidi_base.proofs.UpdatedLemmas.{IsUpdated-passing}
use Rattle.bidi_base.specs.InPlace.{IsInPlace}
use Rattle.bidi_explicit.proofs.PassOverText.{IsInPlace-updated}
use Rattle.bidi_text.proofs.PerCharTests.{class_eq, class_test}
use Rattle.bidi_rules.proofs.FirstKept.{first_kept-is, first-Some}
use Rattle.bidi_rules.proofs.NeutralUnits.{places_in_runs}
use Rattle.bidi_explicit.specs.RunSequence.{borrowed_runs, borrowed_sos, borrowed_eos}
use Rattle.bidi_explicit.specs.declared.prepare.borrowed.BorrowedSequence.{BorrowedSequence}
use Rattle.bidi_paragraphs.proofs.OneLevel.{begins_unmarked, GiveLevels, KeepLevels, KeepLevels-one}
use Rattle.bidi_paragraphs.proofs.NumbersAfterL.{GiveLevels-numbers}
use Rattle.bidi_paragraphs.specs.KnownLevels.{raises, is_l_r_or_bn, is_r_al_or_an, number_as_l, first_unit, own_direction, AreNumbersWritten, HasEuropeanNumbers, HasOneDirection, HasNoNeutral}
use Rattle.bidi_rules.proofs.OneDirection.{read_each}

-- ---- W1 to W7 change numbers, terminators, separators, Arabic letters and nonspacing marks alone

abbrev is_idle : BidiClass → Bool
is_idle c = is_weak_resolved c && not (is_en c)

same-in_context : (rule : List BidiClass → BidiClass → List BidiClass → BidiClass) (p : BidiClass → Bool)
    → ((before : List BidiClass) (c : BidiClass) (after : List BidiClass) → p c ≡ true → rule before c after ≡ c)
    → (before xs : List BidiClass) → list_all p xs ≡ true → in_context rule before xs ≡ xs
same-in_context rule p same before [] h = refl
same-in_context rule p same before (x ∷ xs) h = grind (arith, and_parts, same, same-in_context rule p same (x ∷ before) xs)

same-mapped : (f : BidiClass → BidiClass) (p : BidiClass → Bool) → ((c : BidiClass) → p c ≡ true → f c ≡ c) → (xs : List BidiClass) → list_all p xs ≡ true → map f xs ≡ xs
same-mapped f p same [] h = refl
same-mapped f p same (x ∷ xs) h = grind (arith, and_parts, same, same-mapped f p same xs)

module _ (sos : BidiClass) where
  same_w1 : (before : List BidiClass) (c : BidiClass) (after : List BidiClass) → is_idle c ≡ true → w1_rule sos before c after ≡ c
  same_w1 before NSM after h = absurd (cc h)
  same_w1 before c after h = refl

  same_w2 : (before : List BidiClass) (c : BidiClass) (after : List BidiClass) → is_idle c ≡ true → w2_rule sos before c after ≡ c
  same_w2 before EN after h = absurd (cc h)
  same_w2 before c after h = refl

  same_w7 : (before : List BidiClass) (c : BidiClass) (after : List BidiClass) → is_idle c ≡ true → w7_rule sos before c after ≡ c
  same_w7 before EN after h = absurd (cc h)
  same_w7 before c after h = refl

same_w3 : (c : BidiClass) → is_idle c ≡ true → w3_rule c ≡ c
same_w3 AL h = absurd (cc h)
same_w3 c h = refl

same_w4 : (before : List BidiClass) (c : BidiClass) (after : List BidiClass) → is_idle c ≡ true → w4_rule before c after ≡ c
same_w4 (EN ∷ before) ES (EN ∷ after) h = absurd (cc h)
same_w4 (EN ∷ before) CS (EN ∷ after) h = absurd (cc h)
same_w4 (AN ∷ before) CS (AN ∷ after) h = absurd (cc h)
same_w4 before c after h = refl

same_w5 : (before : List BidiClass) (c : BidiClass) (after : List BidiClass) → is_idle c ≡ true → w5_rule before c after ≡ c
same_w5 before ET after h = absurd (cc h)
same_w5 before c after h = refl

same_w6 : (c : BidiClass) → is_idle c ≡ true → w6_rule c ≡ c
same_w6 ES h = absurd (cc h)
same_w6 ET h = absurd (cc h)
same_w6 CS h = absurd (cc h)
same_w6 c h = refl

weak_classes-idle : (sos : BidiClass) (classes : List BidiClass) → list_all is_idle classes ≡ true → weak_classes sos classes ≡ classes
unfolding weak_classes
weak_classes-idle sos classes h =
    simp (
      same-in_context (w1_rule sos) is_idle (same_w1 sos) [] classes h,
      same-in_context (w2_rule sos) is_idle (same_w2 sos) [] classes h,
      same-mapped w3_rule is_idle same_w3 classes h,
      same-in_context w4_rule is_idle same_w4 [] classes h,
      same-in_context w5_rule is_idle same_w5 [] classes h,
      same-mapped w6_rule is_idle same_w6 classes h,
      same-in_context (w7_rule sos) is_idle (same_w7 sos) [] classes h,
    )

-- ---- without neutrals: L and R

directed-only : (c : BidiClass) → is_l_r_or_bn c ≡ true → is_kept_in_place c ≡ true → is_l_or_r c ≡ true
unfolding is_l_r_or_bn
directed-only c h kept = grind arith

-- ---- without neutrals N0 to N2 change nothing

module _ (classes : List BidiClass) (brackets : List (Option BidiMatchedOpeningBracket)) (all : list_all is_l_or_r classes ≡ true) where
  abbrev counted : List (Option BidiMatchedOpeningBracket)
  counted = counted_brackets classes brackets

  no_bracket : (cs : List BidiClass) (bs : List (Option BidiMatchedOpeningBracket)) → list_all is_l_or_r cs ≡ true → (k : ℕ) → bracket_at (counted_brackets cs bs) k ≡ None
  no_bracket [] bs h k = get_or_past [] k None (omega arith)
  no_bracket (c ∷ cs) [] h k = get_or_past [] k None (omega arith)
  no_bracket (L ∷ cs) (b ∷ bs) h zero = refl
  no_bracket (R ∷ cs) (b ∷ bs) h zero = refl
  no_bracket (c ∷ cs) (b ∷ bs) h zero = absurd (cc (and_parts (is_l_or_r c) (list_all is_l_or_r cs) h).0)
  no_bracket (c ∷ cs) (b ∷ bs) h (suc k) = no_bracket cs bs (and_parts (is_l_or_r c) (list_all is_l_or_r cs) h).1 k

  none_closed : (js : List ℕ) → fold (with_closing counted) [] js ≡ []
  unfolding with_closing
  none_closed [] = refl
  none_closed (j ∷ js) = simp (no_bracket classes brackets all j) (none_closed js)

  none_found : (limit : ℕ) (js : List ℕ) → filter_map (λ i. find (λ (p : ℕ × ℕ). p.0 == i && nat_lt p.1 limit) []) js ≡ []
  none_found limit [] = refl
  none_found limit (j ∷ js) = none_found limit js

  no_pairs : bracket_pairs classes brackets ≡ []
  unfolding bracket_pairs pairs_of closed_pairs
  no_pairs = simp (none_closed (indexes counted)) (none_found (bracket_limit counted []) (indexes counted))

  same_n1 : (e sos eos : BidiClass) (before : List BidiClass) (c : BidiClass) (after : List BidiClass) → is_l_or_r c ≡ true → n1_rule e sos eos before c after ≡ c
  same_n1 e sos eos before L after h = refl
  same_n1 e sos eos before R after h = refl
  same_n1 e sos eos before c after h = absurd (cc h)

  without_neutrals : (level : ℕ) (sos eos : BidiClass) (source_classes : List BidiClass) → neutral_classes level sos eos source_classes brackets classes ≡ classes
  unfolding neutral_classes n0
  without_neutrals level sos eos source_classes =
      simp no_pairs (same-in_context (n1_rule (direction_of level) sos eos) is_l_or_r (same_n1 (direction_of level) sos eos) [] classes all)

idle-directed : (cs : List BidiClass) → list_all is_l_or_r cs ≡ true → list_all is_idle cs ≡ true
idle-directed [] all = refl
idle-directed (L ∷ cs) all = idle-directed cs all
idle-directed (R ∷ cs) all = idle-directed cs all
idle-directed (c ∷ cs) all = absurd (cc (and_parts (is_l_or_r c) (list_all is_l_or_r cs) all).0)

KeepLevels-directed : (level : ℕ) (sos eos : BidiClass) (source_classes : List BidiClass) (brackets : List (Option BidiMatchedOpeningBracket)) (classes : List BidiClass)
    → list_all is_l_or_r classes ≡ true → KeepLevels level sos eos source_classes brackets classes
KeepLevels-directed level sos eos source_classes brackets classes all =
    simp (weak_classes-idle sos classes (idle-directed classes all), without_neutrals classes brackets all level sos eos source_classes)

-- ---- the characters of a sequence

pub lines-within : (len_of : ℕ → ℕ) (chars : List ℕ) (classes : List BidiClass) (runs : List (ℕ × ℕ)) → length classes ≡ text_len len_of chars
    → AreLines len_of chars runs → All (λ r. r.1 ≤ length classes) runs
lines-within len_of chars classes runs long lines = grind (arith, is_boundary-le)

list_all-at_indexes : (p : BidiClass → Bool) (classes : List BidiClass) (ps : List ℕ) → All (λ u. p (class_at classes u) ≡ true) ps → list_all p (at_indexes L classes ps) ≡ true
list_all-at_indexes p classes [] a = refl
list_all-at_indexes p classes (q ∷ ps) a =
    let passes = λ (u : ℕ). p (class_at classes u) ≡ true in
    grind (arith, and_from, list_all-at_indexes p classes ps, All-head passes q ps a, All-tail passes q ps a)

at_indexes-mapped : (f : BidiClass → BidiClass) (old new : List BidiClass) (ps : List ℕ) → All (λ u. class_at new u ≡ f (class_at old u)) ps → at_indexes L new ps ≡ map f (at_indexes L old ps)
at_indexes-mapped f old new [] a = refl
at_indexes-mapped f old new (p ∷ ps) a = simp (
  All-head (λ u. class_at new u ≡ f (class_at old u)) p ps a,
  at_indexes-mapped f old new ps (All-tail (λ u. class_at new u ≡ f (class_at old u)) p ps a),
)

unmarked-places : (classes : List BidiClass) (ps : List ℕ) → is_nsm (class_at classes (first_or 0 ps)) ≡ false → begins_unmarked (at_indexes L classes ps) ≡ true
unmarked-places classes [] h = refl
unmarked-places classes (p ∷ ps) h = grind arith

-- the first of them
found_first : (test : ℕ → Bool) (rs : List (ℕ × ℕ)) → nat_lt 0 (length rs) ≡ true → are_ordered rs ≡ true
    → test (get_or rs 0 (0, 0)).0 ≡ true → Some (get_or rs 0 (0, 0)).0 ≡ find test (units_in_runs rs)
found_first test [] some ordered passes = absurd (cc some)
found_first test (r ∷ rs) some ordered passes = by_length (r.1 - r.0) refl (grind arith)
  where
    by_length : (n : ℕ) → r.1 - r.0 ≡ n → 0 < n → Some r.0 ≡ find test (units_in_runs (r ∷ rs))
    by_length zero is positive = absurd (omega arith)
    by_length (suc n) is positive = simp (is, passes)

module _ (len_of : ℕ → ℕ) (h : HasUnits len_of) (chars : List ℕ) (s : BorrowedSequence) (levels : List ℕ) (classes : List BidiClass)
    (lines : AreLines len_of chars (map bounds (borrowed_runs s))) (per : is_per_char class_eq len_of chars classes ≡ true) where
  abbrev rs : List (ℕ × ℕ)
  rs = map bounds (borrowed_runs s)

  abbrev places : List ℕ
  places = map (unit_index len_of chars) (kept_in_place len_of chars classes rs)

  side : is_l_or_r (borrowed_sos s) ≡ true
  side = third (nat_lt 0 (length rs)) (are_ordered rs) (is_l_or_r s.sos) (is_l_or_r s.eos) s.well_formed
    where
      third : (a b c d : Bool) → a && (b && (c && d)) ≡ true → c ≡ true
      third a b c d all = grind arith

  at_kept : (P : ℕ → Type 0) → ((u : ℕ) → in_runs rs u ≡ true → is_kept_in_place (class_at classes u) ≡ true → P u) → All P places
  unfolding kept_in_place
  at_kept P holds =
      All-map P (unit_index len_of chars) (kept_in_place len_of chars classes rs)
      (read_each (λ k. is_kept_in_place (class_at classes (unit_index len_of chars k))) (λ k. in_runs rs (unit_index len_of chars k)) (λ k. P (unit_index len_of chars k))
      (λ k inside kept. holds (unit_index len_of chars k) inside kept) (chars_in_runs len_of chars rs) (places_in_runs len_of h chars rs lines))

  -- all classes that are kept pass a test
  kept_pass : (test : BidiClass → Bool) → ((u : ℕ) → in_runs rs u ≡ true → is_kept_in_place (class_at classes u) ≡ true → test (class_at classes u) ≡ true) → list_all test (at_indexes L classes places) ≡ true
  kept_pass test passes = list_all-at_indexes test classes places (at_kept (λ u. test (class_at classes u) ≡ true) passes)

  -- the first of its characters is the first unit
  first-place : is_kept_in_place (class_at classes (first_unit s)) ≡ true → first_or 0 places ≡ first_unit s
  first-place kept =
      first-Some places (first_unit s)
      (sym (first_kept-is len_of h chars classes (IsPerChar-from_is_per_char class_eq class_test len_of h chars classes per) rs lines)
      ∙ sym (found_first (λ u. is_kept_in_place (class_at classes u)) rs (and_parts _ _ s.well_formed).0 (and_parts _ _ (and_parts _ _ s.well_formed).1).0 kept))

  -- the levels can be read off its classes
  pub known_levels-keeps : (source_classes : List BidiClass) (brackets : List (Option BidiMatchedOpeningBracket)) → HasOneDirection s levels classes ⊎ HasNoNeutral s classes
      → list_all is_kept (at_indexes L classes places) ≡ true → KeepLevels (level_at levels (first_or 0 places)) (borrowed_sos s) (borrowed_eos s) source_classes brackets (at_indexes L classes places)
  known_levels-keeps source_classes brackets (inl one) kept =
      rw (sym (first-place one.kept)) at
      (KeepLevels-one (level_at levels (first_unit s)) (borrowed_sos s) (borrowed_eos s) source_classes brackets (at_indexes L classes places) side
      (elim one.sides [
        | inl before ↦ inl before
        | inr behind ↦ inr (behind.0, unmarked-places classes places (ap (λ u. is_nsm (class_at classes u)) (first-place one.kept) ∙ behind.1))
      ]) kept
      (kept_pass (λ c. not (raises (own_direction s levels) c)) (λ u inside kept. grind (arith, one.along u inside))))
  known_levels-keeps source_classes brackets (inr none) kept =
      KeepLevels-directed (level_at levels (first_or 0 places)) (borrowed_sos s) (borrowed_eos s) source_classes brackets (at_indexes L classes places)
      (kept_pass is_l_or_r (λ u inside kept. directed-only (class_at classes u) (none u inside) kept))

  -- ---- L written over the European numbers

  module _ (new : List BidiClass) (numbers : HasEuropeanNumbers s levels classes) (written : AreNumbersWritten rs classes new) where
    changed : (u : ℕ) → in_runs rs u ≡ true → class_at new u ≡ number_as_l (class_at classes u)
    changed = IsUpdated-passing L (in_runs rs) number_as_l classes new refl written

    written-at : at_indexes L new places ≡ map number_as_l (at_indexes L classes places)
    written-at = at_indexes-mapped number_as_l classes new places (at_kept (λ u. class_at new u ≡ number_as_l (class_at classes u)) (λ u inside kept. changed u inside))

    kept-number : (c : BidiClass) → is_kept_in_place c ≡ true → is_kept_in_place (number_as_l c) ≡ true
    kept-number c h = grind arith

    pub written-kept : list_all is_kept_in_place (at_indexes L new places) ≡ true
    written-kept = list_all-at_indexes is_kept_in_place new places (at_kept (λ u. is_kept_in_place (class_at new u) ≡ true) (λ u inside kept. ap is_kept_in_place (changed u inside) ∙ kept-number (class_at classes u) kept))

    -- the levels can be read off what is written
    pub numbers-give : (source_classes : List BidiClass) (brackets : List (Option BidiMatchedOpeningBracket)) → list_all is_kept (at_indexes L classes places) ≡ true
        → GiveLevels (level_at levels (first_or 0 places)) (borrowed_sos s) (borrowed_eos s) source_classes brackets (at_indexes L classes places) (at_indexes L new places)
    numbers-give source_classes brackets kept =
        rw (written-at, first-place numbers.kept)
        (GiveLevels-numbers (level_at levels (first_unit s)) (borrowed_sos s) (borrowed_eos s) source_classes brackets (at_indexes L classes places) (sym numbers.own) numbers.before kept
        (kept_pass (λ c. not (is_r_al_or_an c)) (λ u inside kept. ap not (numbers.along u inside))))

    pub written-in_place : IsInPlace len_of chars rs classes new
    written-in_place = IsInPlace-updated len_of h chars rs lines number_as_l refl refl classes new per written
