-- What the constructors promise of a text in any encoding.
use Rattle.std.specs.Prelude.{◌≡◌, ℕ, List, Option, IfOk, Result}
use Rattle.bidi_base.specs.Laws.{BoundaryNeutralsAreAlike, StaysLeftToRight}
use Rattle.bidi_base.specs.Source.{Source}

module _ (source : Source) (base_level : Option ℕ) where
  -- laws of the levels of every paragraph
  pub record ObeysLaws : Type 0 where
    -- replacing a character of class BN by another of class BN changes no level of its paragraph
    pub boundary_neutrals_alike : BoundaryNeutralsAreAlike source base_level
    -- if no class in a paragraph of level 0 can change the direction, all its levels are 0
    pub stays_left_to_right : StaysLeftToRight source base_level

  -- what a constructor establishes: if it succeeds, the result has the text and is its analysis; the laws hold even if
  -- it fails
  pub record Constructs {I E : Type 0} (text_of : I → List ℕ) (units : List ℕ) (is_analysis : I → Type 0) (result : Result I E) : Type 0 where
    pub text : IfOk result (λ i. text_of i ≡ units)
    pub analysis : IfOk result is_analysis
    pub laws : ObeysLaws
