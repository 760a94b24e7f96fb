-- The rows that sequences write.
use Rattle.bidi_base.proofs.Common.{◌≡◌, ℕ, ◌+◌, ◌<◌, true, List, [], ◌∷◌, ◌++◌, Option, Some, length, get_or, map, zip, take, flat_map, refl, ◌∙◌, arith, common_steps, slice_set, All, list_all}
use Rattle.bidi_base.proofs.Common.{length-set, length-map, All-permutation, is_kept, is_l_or_r, is_weak_resolved, indexes, at_indexes, RunSequence, stored_classes, visual_order, Source}
use Rattle.bidi_base.specs.declared.char_data.BidiClass.{BidiClass}
use Rattle.bidi_base.specs.declared.char_data.BidiClass.TheVariants.{L}
use Rattle.bidi_laws.proofs.ResolvedLemmas.{length-weak_classes}
use Rattle.bidi_laws.proofs.StoredLemmas.{length-at_indexes}
use Rattle.bidi_laws.proofs.WeakLemmas.{weak_classes-resolved}
use Rattle.bidi_laws.proofs.StoredSteps.{length-stored_classes}
use Rattle.bidi_laws.proofs.VisualOrderLemmas.{all_below}
use Rattle.bidi_lines.proofs.LineInText.{length-line}
use Rattle.bidi_lines.proofs.Ordered.{visual_order-is}
use Rattle.bidi_explain.specs.Stages.{written, weak_in, StagesFrom}
use Rattle.bidi_explain.specs.declared.stages.Stages.{Stages}

pub written-append : (row : List (Option BidiClass)) (xs ys : List (ℕ × BidiClass)) → written row (xs ++ ys) ≡ written (written row xs) ys
written-append row [] ys = refl
written-append row (x ∷ xs) ys = written-append (slice_set row x.0 (Some x.1)) xs ys

pub length-written : (row : List (Option BidiClass)) (xs : List (ℕ × BidiClass)) → length (written row xs) ≡ length row
length-written row [] = refl
length-written row (x ∷ xs) = length-written (slice_set row x.0 (Some x.1)) xs ∙ length-set row x.0 (Some x.1)

pub length-weak_in : (classes : List BidiClass) (s : RunSequence) → length (weak_in classes s) ≡ length s.places
unfolding weak_in
length-weak_in classes s = grind (arith, length-weak_classes, length-at_indexes)

pub weak_in-resolved : (classes : List BidiClass) (s : RunSequence) → is_l_or_r s.sos ≡ true
    → list_all is_kept (at_indexes L classes s.places) ≡ true → list_all is_weak_resolved (weak_in classes s) ≡ true
unfolding weak_in
weak_in-resolved classes s sos kept = grind (arith, weak_classes-resolved)

-- one more sequence
pub written-more : (f : RunSequence → List BidiClass) (row old : List (Option BidiClass)) (seqs : List RunSequence) (i : ℕ) (s d : RunSequence) → i < length seqs → s ≡ get_or seqs i d
    → row ≡ written old (flat_map (λ t. zip t.places (f t)) (take i seqs)) → written row (zip s.places (f s)) ≡ written old (flat_map (λ t. zip t.places (f t)) (take (i + 1) seqs))
written-more f row old seqs i s d within is so_far = grind (arith, common_steps, written-append)

-- ---- what is shown of a paragraph

-- the indexes of a line from left to right are its own
order-below : (levels : List ℕ) → All (λ p. p < length levels) (visual_order levels)
order-below levels = All-permutation (λ p. p < length levels) (indexes levels) (visual_order levels) (visual_order-is levels).all_indexes (all_below levels)

module _ (source : Source) (chars : List ℕ) (para_level : ℕ) (stored : List ℕ) (long : length stored ≡ length chars) (s : Stages) (from : StagesFrom source chars para_level stored s) where
  -- it has a level in line for each character
  pub line_levels-long : length s.line_levels.items ≡ length chars
  line_levels-long = grind (arith, from, length-line para_level (stored_classes (map source.class_of chars)) stored 0 (length chars), length-stored_classes, length-map)

  pub order-within : All (λ p. p < length chars) s.order.items
  order-within = grind (arith, line_levels-long, order-below)
