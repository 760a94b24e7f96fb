-- What is shown of a line, from the value that displays it.
use Rattle.bidi_base.proofs.Common.{◌≡◌, ◌∙◌, ℕ, ◌+◌, ◌<◌, List, [], ◌∷◌, ◌++◌, length, map, flat_map, get_or, take, take_more, get_or-map, flat_map-append, flat_map-map, append-nil, encode_utf8, codes, sym, ap, Range, Run, run_of, AnalysedText, Source, IsAnalysis, len_utf8, text_len, per_unit, stored_classes, None, Some, IsUtf8, chars as chars_in, subst, arith, true, false}
use Rattle.bidi_base.specs.declared.char_data.BidiClass.{BidiClass}
use Rattle.bidi_display.specs.DisplayedLine.{clusters_of}
use Rattle.bidi_display.specs.LineBreaks.{lines_of, shown_end, simple_break_after}
use Rattle.bidi_display.specs.LineChars.{line_chars}
use Rattle.bidi_display.specs.Shown.{chars, clusters, laid_out, options, Displays}
use Rattle.bidi_display.specs.declared.displayed_line.DisplayedLine.{DisplayedLine}
use Rattle.bidi_display.specs.declared.line_char.LineChar.{LineChar}
use Rattle.bidi_display.specs.declared.line_cluster.LineCluster.{LineCluster}
use Rattle.bidi_display.specs.declared.options.DisplayOptions.{DisplayOptions}
use Rattle.bidi_text.proofs.StrLemmas.{text_len-chars}
use Rattle.bidi_terminal.specs.Bases.{level_of_base}
use Rattle.bidi_shown.specs.Breaks.{or_empty}
use Rattle.bidi_shown.specs.Displayed.{analysed_paragraph, clusters_in, displayed_lines, displayed_paragraph, displayed_part, displayed_range, part_of, ranges_within, shown_paragraph, spaced_cluster, spaced_text, whole}
use Rattle.bidi_shown.specs.Plain.{plain_paragraph}
use Rattle.bidi_shown.specs.Paragraph.{analysed}
use Rattle.bidi_shown.specs.Views.{columns_in, options_in}
use Rattle.bidi_shown.specs.declared.view.View.{View}
use Rattle.bidi_shown.proofs.RecordsAsClauses.{analysis-clauses}

-- the texts of the clusters up to a visual index, and one more
module _ (view : View) (cs : List LineChar) (ks : List LineCluster) where
  abbrev pub text_at : ℕ → List ℕ
  text_at i = get_or (map (spaced_cluster view cs) ks) i []

  pub spaced-more : (k : ℕ) (x : LineCluster) → k < length ks → x ≡ get_or ks k x → (order : List ℕ) (v : ℕ) → v < length order → get_or order v 0 ≡ k
      → flat_map encode_utf8 (flat_map text_at (take (v + 1) order)) ≡ flat_map encode_utf8 (flat_map text_at (take v order)) ++ flat_map encode_utf8 (spaced_cluster view cs x)
  spaced-more k x fits read order v within at =
      let here : text_at (get_or order v 0) ≡ spaced_cluster view cs x =
      ap text_at at ∙ get_or-map (spaced_cluster view cs) ks k x [] fits ∙ ap (spaced_cluster view cs) (sym read) in
      let more : flat_map text_at (take (v + 1) order) ≡ flat_map text_at (take v order) ++ text_at (get_or order v 0) =
      ap (flat_map text_at) (take_more order v 0 within) ∙ flat_map-append text_at (take v order) (get_or order v 0 ∷ [])
      ∙ ap (λ (l : List ℕ). flat_map text_at (take v order) ++ l) (append-nil (text_at (get_or order v 0))) in
      ap (flat_map encode_utf8) more
      ∙ flat_map-append encode_utf8 (flat_map text_at (take v order)) (text_at (get_or order v 0))
      ∙ ap (λ (t : List ℕ). flat_map encode_utf8 (flat_map text_at (take v order)) ++ flat_map encode_utf8 t) here

-- a value that shows a line with the options of a view
module _ (view : View) (a : AnalysedText) (level : ℕ) (line : Range ℕ) (s : DisplayedLine) (same : options s ≡ options_in view) (shown : Displays (columns_in view) a level line s) where
  clusters-are : clusters s ≡ clusters_in view (line_chars a level line)
  clusters-are = shown.clusters ∙ ap (λ (o : DisplayOptions). clusters_of o (columns_in view) (line_chars a level line)) same

  pub range-shown : flat_map encode_utf8 (spaced_text view (chars s) (clusters s)) ++ codes "\n" ≡ displayed_range view a level line
  unfolding displayed_range
  range-shown =
      ap (λ (t : List ℕ). flat_map encode_utf8 t ++ codes "\n")
      (ap (λ (cs : List LineChar). spaced_text view cs (clusters s)) shown.chars ∙ ap (spaced_text view (line_chars a level line)) clusters-are)

  pub part-is : (part : Range ℕ) → part.start ≡ (laid_out s).start → part.end ≡ shown_end (chars s) (laid_out s).start (clusters s) → part ≡ part_of view a level line
  unfolding part_of
  part-is part starts ends =
      let start : part.start ≡ line.start = starts ∙ shown.start in
      let end : part.end ≡ shown_end (line_chars a level line) line.start (clusters_in view (line_chars a level line)) =
      ends
      ∙ ap (λ (cs : List LineChar). shown_end cs (laid_out s).start (clusters s)) shown.chars
      ∙ ap (λ (n : ℕ). shown_end (line_chars a level line) n (clusters s)) shown.start
      ∙ ap (shown_end (line_chars a level line) line.start) clusters-are in
      ap (λ (n : ℕ). record { start = n; end = part.end }) start ∙ ap (λ (n : ℕ). record { start = line.start; end = n }) end

-- the lines of a value that shows the whole paragraph
module _ (view : View) (a : AnalysedText) (level : ℕ) (s : DisplayedLine) (same : options s ≡ options_in view) (shown : Displays (columns_in view) a level (whole view a level) s) (limit : ℕ) where
  pub ranges-are : or_empty (lines_of (options s) simple_break_after limit (chars s) (laid_out s).start (clusters s)) ≡ ranges_within view a level limit
  unfolding ranges_within
  ranges-are =
      ap or_empty (ap (λ (o : DisplayOptions). lines_of o simple_break_after limit (chars s) (laid_out s).start (clusters s)) same
      ∙ ap (λ (cs : List LineChar). lines_of (options_in view) simple_break_after limit cs (laid_out s).start (clusters s)) shown.chars
      ∙ ap (λ (n : ℕ). lines_of (options_in view) simple_break_after limit (line_chars a level (whole view a level)) n (clusters s)) shown.start
      ∙ ap (lines_of (options_in view) simple_break_after limit (line_chars a level (whole view a level)) 0) (clusters-are view a level (whole view a level) s same shown))

-- a paragraph with its analysis is displayed as the rules say
pub paragraph-displayed : (source : Source) (view : View) (own : List ℕ) (classes : List BidiClass) (levels : List ℕ) (level : ℕ)
    → IsAnalysis source (level_of_base view.base) None (analysed own classes levels) ((0, text_len len_utf8 own) ∷ []) (level ∷ [])
    → displayed_lines view (analysed own classes levels) level view.width ≡ displayed_paragraph source view own
unfolding displayed_paragraph
paragraph-displayed source view own classes levels level h =
    let parts = analysis-clauses source (level_of_base view.base) own classes levels level h in
    let text : analysed own classes levels ≡ analysed_paragraph source (level_of_base view.base) own =
    ap (λ (cs : List BidiClass). analysed own cs levels) parts.0
    ∙ ap (analysed own (per_unit len_utf8 own (stored_classes (map source.class_of own)))) parts.1 in
    ap (λ (a : AnalysedText). displayed_lines view a level view.width) text
    ∙ ap (λ (l : ℕ). displayed_lines view (analysed_paragraph source (level_of_base view.base) own) l view.width) parts.2

-- ---- the whole of a paragraph, by its bytes

module _ (view : View) (text : List ℕ) (utf8 : IsUtf8 text) (classes : List BidiClass) (levels : List ℕ) (level : ℕ) where
  abbrev a : AnalysedText
  a = analysed (chars_in text) classes levels

  whole-bytes : record { start = 0; end = length text } ≡ whole view a level
  whole-bytes = ap (λ (n : ℕ). record { start = 0; end = n }) (sym (text_len-chars text utf8))

  pub displays-whole : (s : DisplayedLine) → Displays (columns_in view) a level (record { start = 0; end = length text }) s → Displays (columns_in view) a level (whole view a level) s
  displays-whole s shown = subst (λ (r : Range ℕ). Displays (columns_in view) a level r s) whole-bytes shown

  pub lines-None : view.width ≡ None → displayed_range view a level (record { start = 0; end = length text }) ≡ displayed_lines view a level view.width
  unfolding displayed_lines
  lines-None none = ap (displayed_range view a level) whole-bytes ∙ sym (ap (displayed_lines view a level) none)

-- the lines of a width
pub lines-Some : (view : View) (a : AnalysedText) (level width : ℕ) → view.width ≡ Some width → (ranges : List (Range ℕ)) → map run_of ranges ≡ ranges_within view a level width
    → flat_map (λ (r : Range ℕ). displayed_part view a level (run_of r)) ranges ≡ displayed_lines view a level view.width
unfolding displayed_lines
lines-Some view a level width some ranges are =
    sym (flat_map-map (displayed_part view a level) run_of ranges) ∙ ap (flat_map (displayed_part view a level)) are ∙ sym (ap (displayed_lines view a level) some)

-- an empty paragraph is one empty line
pub or_empty-none : (ranges : List (Range ℕ)) (lines : List Run) → map run_of ranges ≡ lines → length ranges ≡ 0 → map run_of (ranges ++ record { start = 0; end = 0 } ∷ []) ≡ or_empty lines
or_empty-none [] lines are none = ap or_empty are
or_empty-none (r ∷ ranges) lines are none = absurd (omega arith)

pub or_empty-some : (ranges : List (Range ℕ)) (lines : List Run) → map run_of ranges ≡ lines → 0 < length ranges → map run_of ranges ≡ or_empty lines
or_empty-some [] lines are some = absurd (omega arith)
or_empty-some (r ∷ ranges) lines are some = ap or_empty are

-- a paragraph is shown plainly or displayed
pub shown-plain : (source : Source) (view : View) (own : List ℕ) → view.plain ≡ true → plain_paragraph source view own ≡ shown_paragraph source view own
unfolding shown_paragraph
shown-plain source view own plain = simp plain

pub shown-displayed : (source : Source) (view : View) (own : List ℕ) → view.plain ≡ false → displayed_paragraph source view own ≡ shown_paragraph source view own
unfolding shown_paragraph
shown-displayed source view own displayed = simp displayed
