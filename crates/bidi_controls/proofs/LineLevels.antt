-- The levels of a line that is analysed as one paragraph, as a list of characters, and its order.
use Rattle.bidi_base.proofs.Common.{◌≡◌, ℕ, ◌<◌, List, ◌∷◌, [], All, length, map, Option, None, sym, subst, ◌∙◌, indexes, length-map, line_levels, paragraph_level, stored_classes}
use Rattle.bidi_base.proofs.Common.{Source, stored_levels, one_unit, All-permutation, IsVisualOrder, IsAnalysis}
use Rattle.bidi_base.specs.declared.char_data.BidiClass.{BidiClass}
use Rattle.bidi_laws.proofs.LevelLaws.{length-stored_levels}
use Rattle.bidi_laws.proofs.StoredSteps.{length-stored_classes}
use Rattle.bidi_laws.proofs.VisualOrderLemmas.{all_below}
use Rattle.bidi_lines.proofs.LineLevels.{length-line_levels}
use Rattle.unicode_bidi.proofs.AloneLemmas.{alone-classes, alone-levels, alone-level}
use Rattle.bidi_controls.specs.Displayed.{displayed_levels}

pub displayed_levels-alone : (source : Source) (base_level : Option ℕ) (chars : List ℕ) (classes : List BidiClass) (levels : List ℕ) (level : ℕ) (ranges : List (ℕ × ℕ))
    → IsAnalysis source base_level None (record { len_of = one_unit; chars = chars; classes = classes; levels = levels }) ranges (level ∷ [])
    → line_levels level classes levels ≡ displayed_levels source base_level chars
unfolding displayed_levels
displayed_levels-alone source base_level chars classes levels level ranges h =
    let own : level ≡ paragraph_level base_level (map source.class_of chars) = alone-level _ _ _ _ _ _ _ h in
    simp (alone-classes _ _ _ _ _ _ _ h, alone-levels _ _ _ _ _ _ _ h, own)

-- each character has a level
pub length-displayed_levels : (source : Source) (base_level : Option ℕ) (chars : List ℕ) → length (displayed_levels source base_level chars) ≡ length chars
unfolding displayed_levels
length-displayed_levels source base_level chars =
    length-line_levels (paragraph_level base_level (map source.class_of chars)) (stored_classes (map source.class_of chars)) (stored_levels source base_level chars)
    (length-stored_levels source base_level chars ∙ sym (length-map chars source.class_of) ∙ sym (length-stored_classes (map source.class_of chars)))
    ∙ length-stored_classes (map source.class_of chars) ∙ length-map chars source.class_of

-- a visual order has indexes of the list alone
pub order-within : (levels order : List ℕ) (n : ℕ) → length levels ≡ n → IsVisualOrder levels order → All (λ i. i < n) order
order-within levels order n long h =
    subst (λ m. All (λ i. i < m) order) long (All-permutation (λ i. i < length levels) (indexes levels) order h.all_indexes (all_below levels))
