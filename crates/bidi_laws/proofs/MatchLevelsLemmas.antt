-- A matching PDI stands inside the same isolates and embeddings as its initiator, and so has its explicit level.
use Rattle.bidi_base.proofs.Common.{◌≡◌, ℕ, zero, suc, ◌<◌, true, false, cond, eqb, List, ◌∷◌, length, get_or, Option, Some, None}
use Rattle.bidi_base.proofs.Common.{arith, eqb-true, sum_by-cons, is_pdi, is_paragraph_separator, chain, first_or}
use Rattle.bidi_base.proofs.Common.{is_isolate_initiator_at, is_pdi_at, matching_pdi, open_at, status_at, explicit_level, explicit_levels, RunSequence, level_at, successor, sequence_from, sequences}
use Rattle.bidi_base.specs.declared.char_data.BidiClass.{BidiClass}
use Rattle.bidi_laws.proofs.IsolatesLemmas.{initiators_apart, matching_pdi-IsLeast, matching_pdi-is_pdi}
use Rattle.bidi_laws.proofs.ExplicitLemmas.{level_at-explicit_levels}
use Rattle.bidi_laws.proofs.OpenMatches.{IsReadStack-matched}
use Rattle.bidi_laws.proofs.SuccessorLemmas.{SameLevelAtMatch, successor-level}
use Rattle.bidi_laws.proofs.OpenersStack.{openers_read, left_at, initiators, leaves_at, pdf_apart, initiators-IsReadStack, open_at-closed_by}
use Rattle.bidi_laws.proofs.SequencePlaces.{times_in, sequence-begun, sequence-kept}

-- a matching PDI leaves open what its initiator left open
left_at-match : (classes : List BidiClass) (p q : ℕ) → is_isolate_initiator_at classes p ≡ true → matching_pdi classes p ≡ Some q → left_at classes q ≡ left_at classes p
unfolding matching_pdi
left_at-match classes p q opening matches = grind (arith, leaves_at classes q, matching_pdi-is_pdi classes p q, pdf_apart, top)
  where
    top : (rest : List ℕ) × (initiators classes (openers_read classes q) ≡ p ∷ rest)
    top = IsReadStack-matched (is_isolate_initiator_at classes) (is_pdi_at classes) (initiators_apart classes) (length classes) q p _ (initiators-IsReadStack classes q) opening matches

-- so the same openers are open at both
open_at-match : (classes : List BidiClass) (p q : ℕ) → is_isolate_initiator_at classes p ≡ true → matching_pdi classes p ≡ Some q → open_at classes q ≡ open_at classes p
open_at-match classes p q opening matches =
    grind (arith, open_at-closed_by, left_at-match classes p q opening matches, matching_pdi-IsLeast classes p q matches)

explicit_level-match : (para_level : ℕ) (classes : List BidiClass) (p q : ℕ) → is_isolate_initiator_at classes p ≡ true → matching_pdi classes p ≡ Some q
    → explicit_level para_level classes q ≡ explicit_level para_level classes p
unfolding explicit_level status_at
explicit_level-match para_level classes p q opening matches = grind (arith, not_pdi, matching_pdi-is_pdi, open_at-match)
  where
    not_pdi : (c : BidiClass) → is_pdi c ≡ true → is_paragraph_separator c ≡ false
    not_pdi c e = grind arith

pub explicit_levels-SameLevelAtMatch : (para_level : ℕ) (classes : List BidiClass) → SameLevelAtMatch classes (explicit_levels para_level classes)
explicit_levels-SameLevelAtMatch para_level classes p q opening matches =
    grind (arith, matching_pdi-IsLeast classes p q matches, level_at-explicit_levels, explicit_level-match para_level classes p q)

-- ---- the characters of a sequence have one level

chain-level : (next : ℕ → Option ℕ) (levels : List ℕ) → ((p r : ℕ) → next p ≡ Some r → level_at levels r ≡ level_at levels p) → (n : ℕ) (o : Option ℕ) (q : ℕ)
    → 0 < times_in (chain next n o) q → (p : ℕ) × (o ≡ Some p) × (level_at levels q ≡ level_at levels p)
chain-level next levels step zero o q there = absurd (omega arith)
chain-level next levels step (suc n) None q there = absurd (omega arith)
chain-level next levels step (suc n) (Some p) q there =
    grind (arith, eqb-true p q, step p, sum_by-cons (λ x. cond (eqb x q) 1 0) p (chain next n (next p)), chain-level next levels step n (next p) q)

pub sequence-one_level : (para_level : ℕ) (classes : List BidiClass) (k : ℕ) (d : RunSequence) → k < length (sequences para_level classes (explicit_levels para_level classes)) → (p : ℕ)
    → 0 < times_in (get_or (sequences para_level classes (explicit_levels para_level classes)) k d).places p
    → level_at (explicit_levels para_level classes) p ≡ level_at (explicit_levels para_level classes) (first_or 0 (get_or (sequences para_level classes (explicit_levels para_level classes)) k d).places)
unfolding sequence_from
sequence-one_level para_level classes k d within p there =
    let levels = explicit_levels para_level classes in
    let s : RunSequence = get_or (sequences para_level classes levels) k d in
    let b = sequence-begun para_level classes levels k d within in
    let inside = (sequence-kept para_level classes levels k d within p there).1 in
    let same = explicit_levels-SameLevelAtMatch para_level classes in
    grind (arith, b.1, chain-level (successor classes levels) levels (λ p r. successor-level classes levels p r same) (length classes) (Some b.0) p)
