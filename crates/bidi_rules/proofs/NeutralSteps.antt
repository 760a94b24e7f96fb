-- The steps of N0 and N1 over a sequence, one after the other.
use Rattle.bidi_base.proofs.Common.{◌≡◌, ℕ, ◌+◌, ◌<◌, ◌≤◌, Bool, true, false, ◌&&◌, if◌then◌else◌, List, [], ◌∷◌, length, map}
use Rattle.bidi_base.proofs.Common.{find, slice_get, Option, Some, None, refl, sym, ap, ◌∙◌, arith, ◌⊎◌, rules}
use Rattle.bidi_base.proofs.Common.{All, list_all, Range, cases_Bool, cases_lt, and_parts, and_left, and_right, nil_from_length, length-map, get_or_past, length-range_with_len}
use Rattle.bidi_base.proofs.Common.{get_or-map-range_with_len, bracket_pairs, is_l_or_r, is_kept_in_place, is_weak_resolved, direction_of, n0, n1_rule, n1_n2, n2_rule, neutral_classes, at_indexes}
use Rattle.bidi_base.proofs.Common.{class_at, first_or, indexes, level_at, Source, unit_index, text_len, is_per_char, per_unit, IsPerChar, bounds, in_runs, kept_in_place, units_in_runs, AreLines}
use Rattle.bidi_base.specs.InPlace.{AreNeutralsResolvedUpToN1}
use Rattle.bidi_base.specs.declared.char_data.BidiClass.{BidiClass}
use Rattle.bidi_base.specs.declared.char_data.BidiClass.TheVariants.{L}
use Rattle.bidi_base.specs.declared.data_source.BidiMatchedOpeningBracket.{BidiMatchedOpeningBracket}
use Rattle.bidi_laws.proofs.NeutralLemmas.{n0-resolved}
use Rattle.bidi_laws.proofs.PermutationLemmas.{Ascends}
use Rattle.bidi_text.proofs.PerCharTests.{class_eq, class_test}
use Rattle.bidi_base.proofs.UnitIndexLemmas.{unit_index-lt, unit_index-end}
use Rattle.bidi_base.proofs.PlacesLemmas.{length-in_context}
use Rattle.bidi_laws.proofs.Repeated.{HaveUnits}
use Rattle.bidi_base.proofs.TextLemmas.{HasUnits, is_boundary-le}
use Rattle.bidi_base.proofs.UnitsLemmas.{IsPerChar-from_is_per_char, is_per_char-from_IsPerChar, length-from_IsPerChar}
use Rattle.bidi_laws.proofs.RepeatedRules.{n1_n2-per_unit}
use Rattle.bidi_laws.proofs.ResolvedLemmas.{length-n0}
use Rattle.bidi_explicit.specs.declared.prepare.borrowed.BorrowedSequence.{BorrowedSequence}
use Rattle.bidi_rules.specs.NeutralPass.{values_of, pairs_in, IsPaired, IsReady}
use Rattle.bidi_explicit.specs.SequenceUnits.{seen_units}
use Rattle.bidi_rules.specs.PairPass.{opposite_of}
use Rattle.bidi_explicit.specs.RunSequence.{borrowed_runs, borrowed_sos, borrowed_eos}
use Rattle.bidi_explicit.specs.SequenceUnits.{is_seen}
use Rattle.bidi_rules.proofs.FirstKept.{first_kept-is, first-Some, first-None}
use Rattle.bidi_explicit.proofs.SeenUnits.{kept_in_place-alike, ruled-places, ruled-IsPerChar, seen-every}
use Rattle.bidi_explicit.proofs.Marks.{at_marked-changed}
use Rattle.bidi_explicit.proofs.PassOverText.{IsPerChar-alike, alike_class, in_runs-alike}
use Rattle.bidi_rules.proofs.ListedUnitIndexes.{Ascends-within}
use Rattle.bidi_rules.proofs.KeptRuns.{kept_in_place-Ascends}
use Rattle.bidi_explicit.proofs.WalkLemmas.{is_run_sequence-ordered}
use Rattle.std.proofs.Math.ListN.{get_or-map as get_or-mapped}

pub IsReady-sequence : (len_of : ℕ → ℕ) → HasUnits len_of
    → (chars : List ℕ) (sequence : BorrowedSequence) (runs : List (Range ℕ)) (sos : BidiClass) (old : List BidiClass) → runs ≡ borrowed_runs sequence
    → sos ≡ borrowed_sos sequence
    → is_per_char class_eq len_of chars old ≡ true → AreLines len_of chars (map bounds (borrowed_runs sequence))
    → list_all is_weak_resolved (values_of L len_of chars old (kept_in_place len_of chars old (map bounds (borrowed_runs sequence)))) ≡ true → IsReady len_of chars runs sos old
IsReady-sequence len_of h chars sequence runs sos old runs_is sos_is per lines resolved =
    grind (arith, is_run_sequence-ordered, IsPerChar-from_is_per_char, class_eq, class_test, and_parts)

pub eos-side : (sequence : BorrowedSequence) (eos : BidiClass) → eos ≡ borrowed_eos sequence → is_l_or_r eos ≡ true
eos-side sequence eos is = grind (arith, and_parts)

module _ (len_of : ℕ → ℕ) (h : HasUnits len_of) (chars : List ℕ) (runs : List (Range ℕ)) (sos : BidiClass) (old : List BidiClass) (ready : IsReady len_of chars runs sos old) where
  abbrev read : List ℕ
  read = kept_in_place len_of chars old (map bounds runs)

  pub long : length old ≡ text_len len_of chars
  long = length-from_IsPerChar len_of chars old ready.per_char

  pub runs-within : All (λ r. r.1 ≤ length old) (map bounds runs)
  runs-within = grind (arith, is_boundary-le, long)

  -- the first unit that is read
  pub first-is : (first : ℕ) → Some first ≡ find (λ u. is_kept_in_place (class_at old u)) (units_in_runs (map bounds runs)) → first_or 0 (map (unit_index len_of chars) read) ≡ first
  first-is first found =
      first-Some (map (unit_index len_of chars) read) first (sym (first_kept-is len_of h chars old ready.per_char (map bounds runs) ready.are_lines) ∙ sym found)

  pub first-within : (first : ℕ) → Some first ≡ find (λ u. is_kept_in_place (class_at old u)) (units_in_runs (map bounds runs)) → first < length old
  first-within first found = grind (arith, by_list, kept_in_place-Ascends, first_kept-is)
    where
      by_list : (ks : List ℕ) → Ascends 0 ks (length chars) → slice_get (map (unit_index len_of chars) ks) 0 ≡ Some first → first < length old
      by_list [] rises e = absurd (cc e)
      by_list (k ∷ ks) rises e = grind (arith, Ascends-within (k + 1) (length chars) ks rises.1, unit_index-lt len_of chars h k (length chars), unit_index-end len_of chars (length chars), long)

  pub none-read : None ≡ find (λ u. is_kept_in_place (class_at old u)) (units_in_runs (map bounds runs)) → read ≡ []
  none-read found =
      let none = first-None (map (unit_index len_of chars) read) (sym (first_kept-is len_of h chars old ready.per_char (map bounds runs) ready.are_lines) ∙ sym found) in
      nil_from_length read (cc (none, length-map read (unit_index len_of chars)))

-- classes that are changed one by one, at some places
abbrev at_marks : (ℕ → Bool) → (BidiClass → BidiClass) → List BidiClass → List BidiClass
at_marks mark f cs = map (λ k. if mark k then f (class_at cs k) else class_at cs k) (indexes cs)

length-at_marks : (mark : ℕ → Bool) (f : BidiClass → BidiClass) (cs : List BidiClass) → length (at_marks mark f cs) ≡ length cs
length-at_marks mark f cs = grind (arith, length-map, length-range_with_len) steps 400000

at_marks-at : (mark : ℕ → Bool) (f : BidiClass → BidiClass) → f L ≡ L → (cs : List BidiClass) (k : ℕ) → class_at (at_marks mark f cs) k ≡ (if mark k then f (class_at cs k) else class_at cs k)
at_marks-at mark f stays cs k =
    grind (arith, cases_lt k (length cs), get_or-map-range_with_len (λ j. if mark j then f (class_at cs j) else class_at cs j) 0 (length cs) k k L, get_or_past, length-at_marks)

at_indexes-changed : (f : BidiClass → BidiClass) → f L ≡ L → (cs : List BidiClass) (ps : List ℕ) → at_indexes L (map f cs) ps ≡ map f (at_indexes L cs ps)
at_indexes-changed f stays cs [] = refl
at_indexes-changed f stays cs (p ∷ ps) = simp (at_indexes-changed f stays cs ps, simp stays at (get_or-mapped f cs p L))

-- two classes that were alike, and have become that direction or stay, are alike if N2 makes them so
same_from : (e c d x y : BidiClass) → is_l_or_r e ≡ true → c ≡ d → (x ≡ c) ⊎ (x ≡ opposite_of e) → (y ≡ d) ⊎ (y ≡ opposite_of e) → n2_rule e x ≡ n2_rule e y → x ≡ y
same_from e c d x y side same own other alike = grind arith

-- and then N1 and N2
pub length-resolved : (e sos eos : BidiClass) (source_classes classes : List BidiClass) (pairs : List (ℕ × ℕ)) → length (n1_n2 e sos eos (n0 e sos source_classes pairs classes)) ≡ length classes
length-resolved e sos eos source_classes classes pairs = grind (arith, length-in_context, length-n0) steps 400000

pub neutral_classes-is : (e sos eos : BidiClass) (level : ℕ) (source_classes classes : List BidiClass) (brackets : List (Option BidiMatchedOpeningBracket)) → e ≡ direction_of level
    → n1_n2 e sos eos (n0 e sos source_classes (bracket_pairs classes brackets) classes) ≡ neutral_classes level sos eos source_classes brackets classes
unfolding neutral_classes
neutral_classes-is e sos eos level source_classes classes brackets is = grind arith steps 400000

pub neutral_classes-none : (level : ℕ) (sos eos : BidiClass) (source_classes : List BidiClass) (brackets : List (Option BidiMatchedOpeningBracket)) → neutral_classes level sos eos source_classes brackets [] ≡ []
unfolding neutral_classes
neutral_classes-none level sos eos source_classes brackets = search (rules, nil_from_length, length-resolved)

-- ---- the end

-- the classes after the steps, over the units: N2 alone is left
abbrev pub IsUpToN1 : (ℕ → ℕ) → List ℕ → Source → List ℕ → List BidiClass → List BidiClass → List BidiClass → List (Range ℕ) → BidiClass → BidiClass → Type 0
IsUpToN1 len_of chars source levels original_classes old new runs sos eos = AreNeutralsResolvedUpToN1 len_of chars source (map bounds runs) sos eos levels original_classes old new

module _ (len_of : ℕ → ℕ) (h : HasUnits len_of) (chars : List ℕ) (source : Source) (original_classes old mid : List BidiClass) (runs : List (Range ℕ))
    (e sos : BidiClass) (ready : IsReady len_of chars runs sos old)
    (p : IsPaired len_of chars original_classes old mid runs e sos (pairs_in len_of chars source old runs)) where
  abbrev rs : List (ℕ × ℕ)
  rs = map bounds runs

  abbrev same_read : kept_in_place len_of chars mid rs ≡ kept_in_place len_of chars old rs
  same_read = kept_in_place-alike len_of chars old mid rs p.kept

  pub same_seen : (u : ℕ) → is_seen rs mid u ≡ is_seen rs old u
  same_seen u = ap (λ b. in_runs rs u && b) (p.kept u)

  pub mid-long : length mid ≡ length old
  mid-long = length-from_IsPerChar len_of chars mid p.per_char ∙ sym (length-from_IsPerChar len_of chars old ready.per_char)

  pub mid-within : All (λ r. r.1 ≤ length mid) rs
  mid-within = search (arith, mid-long, runs-within)

  -- what is read then has a direction or is a neutral still
  pub mid-resolved : is_l_or_r e ≡ true → (u : ℕ) → is_seen rs mid u ≡ true → is_weak_resolved (class_at mid u) ≡ true
  mid-resolved side u seen =
      seen-every len_of h chars mid p.per_char rs ready.are_lines ready.ordered mid-within is_weak_resolved (simp same_read (grind (arith, n0-resolved))) u seen

  module _ (side : is_l_or_r e ≡ true) (eos : BidiClass) (new : List BidiClass) (long : length new ≡ length mid)
      (joined : map (n2_rule e) (at_indexes L new (seen_units rs mid)) ≡ n1_n2 e sos eos (at_indexes L mid (seen_units rs mid)))
      (others : (u : ℕ) → is_seen rs mid u ≡ false → class_at new u ≡ class_at mid u) (own : (u : ℕ) → (class_at new u ≡ class_at mid u) ⊎ (class_at new u ≡ opposite_of e)) where
    -- with N2
    abbrev after_n2 : List BidiClass
    after_n2 = at_marks (is_seen rs mid) (n2_rule e) new

    directed : at_indexes L after_n2 (seen_units rs mid) ≡ n1_n2 e sos eos (at_indexes L mid (seen_units rs mid))
    directed = at_marked-changed (is_seen rs mid) (n2_rule e) after_n2 new 0 (length mid) (λ u from below seen. simp (at_marks-at (is_seen rs mid) (n2_rule e) refl new u, seen)) ∙ joined

    after_n2-others : (u : ℕ) → is_seen rs mid u ≡ false → class_at after_n2 u ≡ class_at mid u
    after_n2-others u plain = simp (at_marks-at (is_seen rs mid) (n2_rule e) refl new u, plain, others u plain)

    rule_keeps : (cs : List BidiClass) → length (n1_n2 e sos eos cs) ≡ length cs
    rule_keeps cs = length-in_context (n1_rule e sos eos) [] cs

    rule_commutes : (ds : List ℕ) (cs : List BidiClass) → HaveUnits len_of ds → length cs ≡ length ds → n1_n2 e sos eos (per_unit len_of ds cs) ≡ per_unit len_of ds (n1_n2 e sos eos cs)
    rule_commutes ds cs some many = n1_n2-per_unit len_of ds cs some many e sos eos

    unseen : (u : ℕ) → is_seen rs old u ≡ false → class_at new u ≡ class_at old u
    unseen u plain = others u (same_seen u ∙ plain) ∙ p.others u plain

    after_n2-IsPerChar : IsPerChar len_of chars after_n2
    after_n2-IsPerChar =
        ruled-IsPerChar len_of h chars mid p.per_char rs ready.are_lines ready.ordered mid-within (n1_n2 e sos eos) rule_keeps rule_commutes after_n2 directed (length-at_marks (is_seen rs mid) (n2_rule e) new ∙ long) after_n2-others

    even : (k : ℕ) → k < length chars → (u : ℕ) → unit_index len_of chars k ≤ u → u < unit_index len_of chars (k + 1) → class_at new u ≡ class_at new (unit_index len_of chars k)
    even k fits u from below =
        let first = unit_index len_of chars k in
        let same : class_at mid u ≡ class_at mid first = alike_class len_of h chars mid p.per_char k u fits from below in
        let alike : is_seen rs mid u ≡ is_seen rs mid first = simp (in_runs-alike len_of h chars rs ready.are_lines k u from below, same) in
        let answer = at_marks-at (is_seen rs mid) (n2_rule e) refl new in
        let after_n2_same = alike_class len_of h chars after_n2 after_n2-IsPerChar k u fits from below in
        let either = same_from e (class_at mid u) (class_at mid first) (class_at new u) (class_at new first) side same (own u) (own first) in
        grind (arith, cases_Bool (is_seen rs mid first), answer u, answer first, after_n2_same, either, others u, others first)

    -- N1 over the units then
    pub IsUpToN1-paired : (levels : List ℕ) (first : ℕ) → Some first ≡ find (λ u. is_kept_in_place (class_at old u)) (units_in_runs rs)
        → e ≡ direction_of (level_at levels first) → IsUpToN1 len_of chars source levels original_classes old new runs sos eos
    IsUpToN1-paired levels first found is =
        let places = map (unit_index len_of chars) (kept_in_place len_of chars old rs) in
        let everywhere = map (n2_rule e) new in
        let ruled : at_indexes L everywhere places ≡ n1_n2 e sos eos (at_indexes L mid places) =
        simp same_read at
        (ruled-places len_of h chars mid p.per_char rs ready.are_lines ready.ordered mid-within (n1_n2 e sos eos) rule_keeps rule_commutes everywhere
        (at_indexes-changed (n2_rule e) refl new (seen_units rs mid) ∙ joined)) in
        record {
          kept = simp (first-is len_of h chars runs sos old ready first found, ← is, ← at_indexes-changed (n2_rule e) refl new places, ruled, p.paired, neutral_classes-is e sos eos (level_at levels first));
          in_place = record {
            removed = λ u gone. unseen u (and_right (in_runs rs u) (is_kept_in_place (class_at old u)) (ap is_kept_in_place gone)) ∙ gone;
            outside = λ u out. unseen u (and_left (in_runs rs u) (is_kept_in_place (class_at old u)) out);
            per_char = is_per_char-from_IsPerChar class_eq class_test len_of chars new
                (IsPerChar-alike len_of chars new (long ∙ length-from_IsPerChar len_of chars mid p.per_char) even);
          };
        }

-- without a character that is read nothing is to be done
pub IsUpToN1-none : (len_of : ℕ → ℕ) (h : HasUnits len_of) (chars : List ℕ) (source : Source) (levels : List ℕ) (original_classes old : List BidiClass) (runs : List (Range ℕ)) (sos eos : BidiClass)
    → IsReady len_of chars runs sos old
    → None ≡ find (λ u. is_kept_in_place (class_at old u)) (units_in_runs (map bounds runs)) → IsUpToN1 len_of chars source levels original_classes old old runs sos eos
IsUpToN1-none len_of h chars source levels original_classes old runs sos eos ready found =
    grind (arith, neutral_classes-none, none-read len_of h chars runs sos old ready found, is_per_char-from_IsPerChar class_eq class_test len_of chars old ready.per_char)

-- at the sequence itself
pub IsUpToN1-sequence : (len_of : ℕ → ℕ) (chars : List ℕ) (source : Source) (levels : List ℕ) (original_classes old new : List BidiClass) (sequence : BorrowedSequence) (runs : List (Range ℕ)) (sos eos : BidiClass)
    → runs ≡ borrowed_runs sequence
    → sos ≡ borrowed_sos sequence → eos ≡ borrowed_eos sequence → IsUpToN1 len_of chars source levels original_classes old new runs sos eos → IsUpToN1 len_of chars source levels original_classes old new (borrowed_runs sequence) (borrowed_sos sequence) (borrowed_eos sequence)
IsUpToN1-sequence len_of chars source levels original_classes old new sequence runs sos eos runs_are sos_is eos_is r = grind arith steps 400000
