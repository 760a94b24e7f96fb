-- The brackets of a sequence by the units at which they begin: as they are gathered, and that they pair as the
-- definitions say.
use Rattle.bidi_base.proofs.Common.{◌≡◌, ℕ, suc, ◌+◌, ◌<◌, List, [], ◌∷◌, ◌++◌, length, map, get_or, refl, sym, ap, subst, ◌∙◌, arith, flat_map-append, length-map, counted_brackets}
use Rattle.bidi_base.proofs.Common.{AreNestedPairs, brackets_from, found_brackets, ArePairsOf, at_indexes, Source, unit_index, bounds, kept_in_place, Range, add-zero}
use Rattle.bidi_base.specs.declared.brackets.Bracket.{Bracket}
use Rattle.bidi_base.specs.declared.char_data.BidiClass.{BidiClass}
use Rattle.bidi_base.specs.declared.char_data.BidiClass.TheVariants.{L}
use Rattle.bidi_laws.proofs.BracketPlaces.{moved, bracket_pairs-moved}
use Rattle.bidi_base.proofs.NestedPairs.{bracket_pairs-nested}
use Rattle.bidi_laws.proofs.StoredLemmas.{length-at_indexes}
use Rattle.bidi_base.proofs.TextLemmas.{HasUnits}
use Rattle.bidi_rules.specs.NeutralPass.{pairs_in, placed_bracket, placed_brackets, values_of, IsReady}
use Rattle.bidi_rules.specs.PairPass.{at_unit_indexes, unit_index_at}
use Rattle.bidi_rules.proofs.ListedUnitIndexes.{length-values_of, unit_index_at-in, unit_index_at-rises}

module _ (len_of : ℕ → ℕ) (chars : List ℕ) (source : Source) (classes : List BidiClass) where
  abbrev placed : List ℕ → List Bracket
  placed ks = placed_brackets len_of chars source classes ks

  pub placed-append : (ks js : List ℕ) → placed (ks ++ js) ≡ placed ks ++ placed js
  placed-append ks js = flat_map-append (placed_bracket len_of chars source classes) ks js

  -- ---- all of them

  placed-moved : (f : ℕ → ℕ) (rises : (i j : ℕ) → i < j → f i < f j) (j : ℕ) (ks : List ℕ) → ((i : ℕ) → i < length ks → f (j + i) ≡ unit_index len_of chars (get_or ks i 0))
      → placed ks ≡ map (moved f rises) (brackets_from j (counted_brackets (values_of L len_of chars classes ks) (map source.bracket_of (at_indexes 0 chars ks))))
  placed-moved f rises j [] at = refl
  placed-moved f rises j (k ∷ ks) at =
      let here : f j ≡ unit_index len_of chars k = simp add-zero at (at 0 (omega arith)) in
      let rest = placed-moved f rises (j + 1) ks (λ i below. let next : j + 1 + i ≡ j + suc i = omega arith in ap f next ∙ at (suc i) (omega arith)) in
      grind arith

-- the pairs found are those of the definitions, by their places
pub pairs-placed : (len_of : ℕ → ℕ) (h : HasUnits len_of) (chars : List ℕ) (source : Source) (runs : List (Range ℕ)) (sos : BidiClass) (old : List BidiClass) → IsReady len_of chars runs sos old
    → (brackets : List Bracket) (pairs : List (ℕ × ℕ)) → brackets ≡ placed_brackets len_of chars source old (kept_in_place len_of chars old (map bounds runs)) → ArePairsOf brackets pairs
    → pairs ≡ at_unit_indexes len_of chars (kept_in_place len_of chars old (map bounds runs)) (pairs_in len_of chars source old runs)
unfolding found_brackets
pairs-placed len_of h chars source runs sos old ready brackets pairs is search =
    let ks = kept_in_place len_of chars old (map bounds runs) in
    let f = unit_index_at len_of chars ks in
    let rises = unit_index_at-rises len_of h chars old (map bounds runs) ready.are_lines ready.ordered in
    bracket_pairs-moved f rises brackets pairs (values_of L len_of chars old ks) (map source.bracket_of (at_indexes 0 chars ks)) search
    (is ∙ placed-moved len_of chars source old f rises 0 ks (λ i below. let same : 0 + i ≡ i = omega arith in ap f same ∙ unit_index_at-in len_of h chars old (map bounds runs) ready.are_lines ready.ordered i below))

pub pairs-nested : (len_of : ℕ → ℕ) (chars : List ℕ) (source : Source) (runs : List (Range ℕ)) (old : List BidiClass)
    → AreNestedPairs (length (kept_in_place len_of chars old (map bounds runs))) (pairs_in len_of chars source old runs)
pairs-nested len_of chars source runs old =
    let ks = kept_in_place len_of chars old (map bounds runs) in
    let long = length-values_of len_of chars L old ks in
    subst (λ n. AreNestedPairs n (pairs_in len_of chars source old runs)) long
    (bracket_pairs-nested (values_of L len_of chars old ks) _ (length-map (at_indexes 0 chars ks) source.bracket_of ∙ length-at_indexes 0 chars ks ∙ sym long))
