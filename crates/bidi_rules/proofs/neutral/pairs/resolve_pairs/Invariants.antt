-- N0 is done for the pairs so far, and the row is what was written last.
use Rattle.bidi_base.proofs.Common.{◌≡◌, ℕ, List, true, length, map, AreNestedPairs, is_l_or_r, bounds, kept_in_place}
use Rattle.bidi_base.proofs.TextLemmas.{HasUnits}
use Rattle.bidi_rules.specs.NeutralPass.{IsReady}
use Rattle.bidi_rules.specs.PairPass.{at_unit_indexes, IsRow}
use Rattle.bidi_rules.proofs.PairSteps.{IsWalkedTo}
use Rattle.bidi_rules.proofs.neutral.pairs.resolve_pairs.Given as goal

abbrev pub invariant-loop-pair : goal.invariant-loop-pair
invariant-loop-pair g l =
    let len_of = g.T.TextSource.encoding.len_of in
    let chars = (g.T.TextSource.text l.fn.text).chars in
    let d = l.directions in
    let ks = kept_in_place len_of chars l.fn.classes (map bounds l.runs) in
    ((h : HasUnits len_of) (ready : IsReady len_of chars l.runs d.sos l.fn.classes) (side : is_l_or_r d.embedding ≡ true) (long : length l.original_classes ≡ length l.fn.classes) (found : List (ℕ × ℕ)) (nested : AreNestedPairs (length ks) found)
    → l.pairs ≡ at_unit_indexes len_of chars ks found → IsWalkedTo len_of h chars l.original_classes l.runs d.sos l.fn.classes ready d.embedding side long found nested l.classes l.pair-index l.walk)
    × IsRow len_of chars (map bounds l.runs) l.original_classes l.classes l.row
