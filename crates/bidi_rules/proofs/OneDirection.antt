-- A sequence in which each class is a neutral or one direction, which stands at its ends too: N2 alone is left.
use Rattle.bidi_base.proofs.Common.{◌≡◌, ℕ, Bool, true, false, List, [], ◌∷◌, map, find, Option, Some, refl, arith, filter, All, list_all, Range, cases_Bool, length-map, All-head}
use Rattle.bidi_base.proofs.Common.{All-tail, All-nil, All-cons, All-map, bracket_pairs, is_l_or_r, is_kept_in_place, is_weak_resolved, same_class, direction_of, n2_rule}
use Rattle.bidi_base.proofs.Common.{neutral_classes, at_indexes, class_at, level_at, Source, unit_index, bounds, chars_in_runs, in_runs, kept_in_place, units_in_runs}
use Rattle.bidi_base.specs.declared.char_data.BidiClass.{BidiClass}
use Rattle.bidi_base.specs.declared.char_data.BidiClass.TheVariants.{L}
use Rattle.bidi_base.specs.declared.data_source.BidiMatchedOpeningBracket.{BidiMatchedOpeningBracket}
use Rattle.bidi_laws.proofs.OneDirection.{goes_with, itself, neutral_classes-one, same_lists}
use Rattle.bidi_text.proofs.PerCharTests.{class_test}
use Rattle.bidi_base.proofs.TextLemmas.{HasUnits}
use Rattle.bidi_base.proofs.UnitsLemmas.{is_per_char-from_IsPerChar}
use Rattle.bidi_rules.specs.NeutralPass.{turns_from, values_of, IsReady}
use Rattle.bidi_rules.proofs.NeutralSteps.{IsUpToN1, first-is, length-resolved, neutral_classes-is}
use Rattle.bidi_rules.proofs.NeutralUnits.{places_in_runs}

goes_with-from : (e c : BidiClass) → is_l_or_r e ≡ true → is_weak_resolved c ≡ true → turns_from e c ≡ false → goes_with e c ≡ true
goes_with-from e c s h k = grind arith

module _ (e : BidiClass) (side : is_l_or_r e ≡ true) where
  module _ (classes : List BidiClass) where
    all_go : (ps : List ℕ) → list_all is_weak_resolved (at_indexes L classes ps) ≡ true → All (λ u. turns_from e (class_at classes u) ≡ false) ps → list_all (goes_with e) (at_indexes L classes ps) ≡ true
    all_go [] h a = refl
    all_go (p ∷ ps) h a =
        let stays = λ (u : ℕ). turns_from e (class_at classes u) ≡ false in
        grind (arith, goes_with-from e (class_at classes p) side, all_go ps, All-head stays p ps a, All-tail stays p ps a)

  -- N2 gives the direction to all
  taken : (e c : BidiClass) → goes_with e c ≡ true → n2_rule e c ≡ e
  taken e c goes = grind arith

  all_same : (cs : List BidiClass) → list_all (goes_with e) cs ≡ true → list_all (same_class e) (map (n2_rule e) cs) ≡ true
  all_same [] h = refl
  all_same (c ∷ cs) h = grind (arith, taken e c, itself e side, all_same cs)

-- what holds of each character that is read
pub read_each : (test within : ℕ → Bool) (P : ℕ → Type 0) → ((k : ℕ) → within k ≡ true → test k ≡ true → P k) → (ks : List ℕ) → All (λ k. within k ≡ true) ks → All P (filter test ks)
read_each test within P holds [] a = All-nil P
read_each test within P holds (k ∷ ks) a =
    grind (arith, cases_Bool (test k), All-cons P k (filter test ks), holds k, All-head (λ j. within j ≡ true) k ks a, read_each test within P holds ks (All-tail (λ j. within j ≡ true) k ks a))

module _ (len_of : ℕ → ℕ) (h : HasUnits len_of) (chars : List ℕ) (runs : List (Range ℕ)) (sos : BidiClass) (old : List BidiClass) (ready : IsReady len_of chars runs sos old) where
  abbrev rs : List (ℕ × ℕ)
  rs = map bounds runs

  abbrev read : List ℕ
  read = kept_in_place len_of chars old rs

  abbrev places : List ℕ
  places = map (unit_index len_of chars) read

  -- a property of the units at which a character is read
  pub at_read : (P : ℕ → Type 0) → ((u : ℕ) → in_runs rs u ≡ true → is_kept_in_place (class_at old u) ≡ true → P u) → All P places
  unfolding kept_in_place
  at_read P holds =
      All-map P (unit_index len_of chars) read
      (read_each (λ k. is_kept_in_place (class_at old (unit_index len_of chars k))) (λ k. in_runs rs (unit_index len_of chars k)) (λ k. P (unit_index len_of chars k))
      (λ k inside reads. holds (unit_index len_of chars k) inside reads) (chars_in_runs len_of chars rs) (places_in_runs len_of h chars rs ready.are_lines))

  -- N0 and N1 have nothing to do
  module _ (e : BidiClass) (side : is_l_or_r e ≡ true) (keeps : (u : ℕ) → in_runs rs u ≡ true → turns_from e (class_at old u) ≡ false) where
    kept-one : (level : ℕ) (source_classes : List BidiClass) (brackets : List (Option BidiMatchedOpeningBracket)) → e ≡ direction_of level
        → map (n2_rule (direction_of level)) (at_indexes L old places) ≡ neutral_classes level e e source_classes brackets (at_indexes L old places)
    kept-one level source_classes brackets is =
        let classes = values_of L len_of chars old read in
        let all = all_go e side old places ready.resolved (at_read (λ u. turns_from e (class_at old u) ≡ false) (λ u inside reads. keeps u inside)) in
        grind (
          arith,
          same_lists e side (map (n2_rule e) classes) (neutral_classes level e e source_classes brackets classes),
          all_same e side classes all,
          neutral_classes-one e side level source_classes brackets classes is all,
          length-map classes (n2_rule e),
          neutral_classes-is e e e level source_classes classes brackets is,
          length-resolved e e e source_classes classes (bracket_pairs classes brackets),
        )

    pub IsUpToN1-one : (source : Source) (levels : List ℕ) (original_classes : List BidiClass) (eos : BidiClass) (first : ℕ) → sos ≡ e → eos ≡ e
        → Some first ≡ find (λ u. is_kept_in_place (class_at old u)) (units_in_runs rs)
        → e ≡ direction_of (level_at levels first) → IsUpToN1 len_of chars source levels original_classes old old runs sos eos
    IsUpToN1-one source levels original_classes eos first sos_is eos_is found is = grind (arith, first-is, kept-one, is_per_char-from_IsPerChar, class_test)
