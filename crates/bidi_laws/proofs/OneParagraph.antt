-- What the analysis of a text that is one paragraph says of its characters.
use Rattle.bidi_base.proofs.Common.{◌≡◌, ℕ, List, [], ◌∷◌, map, Option, None, refl, subst, text_len, AnalysedText, IsAnalysis, paragraph_level, stored_classes, Source, stored_levels, per_unit}
use Rattle.bidi_laws.proofs.LevelLaws.{text_classes-one, text_levels-one, paragraph_levels-one}

module _ (source : Source) (base_level : Option ℕ) (a : AnalysedText) (ranges : List (ℕ × ℕ)) (own_levels : List ℕ)
    (h : IsAnalysis source base_level None a ranges own_levels) where
  pub classes-one : a.classes ≡ per_unit a.len_of a.chars (stored_classes (map source.class_of a.chars))
  classes-one = rw (← text_classes-one) h.paragraphs.classes

  pub levels-one : a.levels ≡ per_unit a.len_of a.chars (stored_levels source base_level a.chars)
  levels-one = rw (← text_levels-one) h.levels

  pub para_level-one : own_levels ≡ paragraph_level base_level (map source.class_of a.chars) ∷ []
  para_level-one = rw (← paragraph_levels-one) h.paragraphs.para_levels

  -- with the whole text as its range, and its level
  pub whole-IsAnalysis : (level : ℕ) → own_levels ≡ level ∷ [] → IsAnalysis source base_level None a ((0, text_len a.len_of a.chars) ∷ []) (level ∷ [])
  whole-IsAnalysis level e =
      subst (λ rs. IsAnalysis source base_level None a rs (level ∷ [])) (h.paragraphs.whole refl) (subst (λ ls. IsAnalysis source base_level None a ranges ls) e h)
