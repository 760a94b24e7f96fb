-- N0 reads source classes for nonspacing marks alone, so stored classes serve as well.
use Rattle.bidi_base.proofs.Common.{◌≡◌, ℕ, List, [], ◌∷◌, map, fold, Option, refl, arith, slice_range, list_all, get_or_past, take-map, list_all-map, is_nsm, at_indexes, stored_classes}
use Rattle.bidi_base.proofs.Common.{is_mark_after, goes_with_pair, with_pair, n0_pair, n0, neutral_classes, drop-map}
use Rattle.bidi_base.specs.declared.char_data.BidiClass.{BidiClass}
use Rattle.bidi_base.specs.declared.char_data.BidiClass.TheVariants.{L}
use Rattle.bidi_base.specs.declared.data_source.BidiMatchedOpeningBracket.{BidiMatchedOpeningBracket}
use Rattle.bidi_laws.proofs.StoredLemmas.{class_at-stored_classes}
use Rattle.bidi_laws.proofs.StoredSteps.{length-stored_classes}

module _ (source_classes other : List BidiClass) (same : map is_nsm source_classes ≡ map is_nsm other) where
  all_marks : (cs : List BidiClass) (i j : ℕ) → list_all is_nsm (slice_range cs i j) ≡ list_all (λ b. b) (slice_range (map is_nsm cs) i j)
  all_marks cs i j = grind (arith, list_all-map, take-map, drop-map)

  n0_pair-source : (e sos : BidiClass) (classes : List BidiClass) (pair : ℕ × ℕ) → n0_pair e sos source_classes classes pair ≡ n0_pair e sos other classes pair
  unfolding n0_pair with_pair goes_with_pair is_mark_after
  n0_pair-source e sos classes pair = grind (arith, all_marks)

  n0_from : (e sos : BidiClass) (pairs : List (ℕ × ℕ)) (classes : List BidiClass) → fold (n0_pair e sos source_classes) classes pairs ≡ fold (n0_pair e sos other) classes pairs
  n0_from e sos [] classes = refl
  n0_from e sos (pair ∷ pairs) classes = grind (arith, n0_pair-source)

  pub neutral_classes-source : (level : ℕ) (sos eos : BidiClass) (brackets : List (Option BidiMatchedOpeningBracket)) (classes : List BidiClass)
      → neutral_classes level sos eos source_classes brackets classes ≡ neutral_classes level sos eos other brackets classes
  unfolding neutral_classes n0
  neutral_classes-source level sos eos brackets classes = grind (arith, n0_from)

-- the same characters are marks by their stored classes
pub marks-stored_classes : (classes : List BidiClass) (ps : List ℕ) → map is_nsm (at_indexes L (stored_classes classes) ps) ≡ map is_nsm (at_indexes L classes ps)
marks-stored_classes classes [] = refl
marks-stored_classes classes (p ∷ ps) =
    grind (arith, class_at-stored_classes classes p, get_or_past, length-stored_classes, marks-stored_classes classes ps)
