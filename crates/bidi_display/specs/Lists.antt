-- The lists of a displayed line.
use Rattle.std.specs.Prelude.{◌≡◌, ℕ, All, List, [], drop, length}
use Rattle.std.specs.declared.ops.Range.{Range}
use Rattle.bidi_base.specs.AnalysedText.{AnalysedText, IsLineOf}
use Rattle.bidi_base.specs.Layout.{AreInverse}
use Rattle.bidi_display.specs.DisplayedLine.{clusters_of, cluster_order, edges, AreClustersFrom, HaveCharsWithin}
use Rattle.bidi_display.specs.LineChars.{line_chars}
use Rattle.bidi_display.specs.Shown.{CutsNoChar}
use Rattle.bidi_display.specs.declared.displayed_line.Lists.{Lists}
use Rattle.bidi_display.specs.declared.options.DisplayOptions.{DisplayOptions}

pub record AreEmpty (lists : Lists) : Type 0 where
  pub chars : lists.chars.items ≡ []
  pub clusters : lists.clusters.items ≡ []
  pub order : lists.order.items ≡ []
  pub places : lists.places.items ≡ []
  pub right_edges : lists.right_edges.items ≡ []

-- the lists of a line of an analysed text, whose paragraph has this level
pub record AreListsOf (options : DisplayOptions) (width_of : List ℕ → ℕ) (a : AnalysedText) (level : ℕ) (line : Range ℕ)
    (lists : Lists) : Type 0 where
  pub chars : lists.chars.items ≡ line_chars a level line
  pub clusters : lists.clusters.items ≡ clusters_of options width_of (line_chars a level line)
  pub chars_within : HaveCharsWithin (length lists.chars.items) lists.clusters.items
  pub is_line : IsLineOf a line
  pub cut_no_char : All (CutsNoChar a) lists.clusters.items
  pub whole : AreClustersFrom line.start line.end lists.clusters.items
  pub order : lists.order.items ≡ cluster_order lists.clusters.items
  pub places : AreInverse lists.order.items lists.places.items
  pub right_edges : lists.right_edges.items ≡ drop 1 (edges lists.clusters.items)
