-- What a comparison of a line with how it reads knows so far.
use Rattle.std.specs.Prelude.{◌≡◌, ℕ, List, Some, IfSome}
use Rattle.bidi_base.specs.Source.{Source}
use Rattle.bidi_controls.specs.Displayed.{displayed_levels, shown_ascii, visible_ascii, plain_line}
use Rattle.bidi_controls.specs.declared.displayed.DisplayComparison.{DisplayComparison}
use Rattle.bidi_controls.specs.declared.displayed.Shown.{Shown}

-- if a line is shown, these are its levels, and the visible ASCII that a device shows of it
pub record IsShown (source : Source) (line : List ℕ) (shown : Shown) : Type 0 where
  pub levels : IfSome shown.base_level (λ level. shown.levels.items ≡ displayed_levels source (Some level) line)
  pub ascii : IfSome shown.base_level (λ level. shown.ascii.items ≡ shown_ascii source (Some level) line)

-- the comparison has read this line
pub record IsOfLine (source : Source) (line : List ℕ) (comparison : DisplayComparison) : Type 0 where
  pub read : comparison.read.items ≡ visible_ascii line
  pub shown : IsShown source line comparison.shown

-- it has also deleted the controls and marks from the line but those of placeholder isolates
pub record IsPlainOf (source : Source) (line : List ℕ) (comparison : DisplayComparison) : Type 0 where
  pub plain : comparison.plain.items ≡ plain_line source line
  pub shown : IsShown source (plain_line source line) comparison.plain_shown
