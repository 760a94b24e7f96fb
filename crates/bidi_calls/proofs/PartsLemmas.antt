-- The parts of a line that is displayed.
use Rattle.bidi_base.proofs.Common.{◌≡◌, ◌∙◌, ℕ, Bool, ◌&&◌, List, [], length, map, flat_map, refl, ap, Range, AnalysedText, at_indexes}
use Rattle.bidi_calls.specs.declared.line.CallerLine.{CallerLine}
use Rattle.bidi_display.specs.DisplayedLine.{clusters_of, cluster_order}
use Rattle.bidi_display.specs.LineChars.{line_chars}
use Rattle.bidi_display.specs.Shown.{chars, clusters, cluster_text, displayed_text, options as options_of, Displays}
use Rattle.bidi_display.specs.TextDisplay.{line_text}
use Rattle.bidi_display.specs.declared.displayed_line.DisplayedLine.{DisplayedLine}
use Rattle.bidi_display.specs.declared.line_char.LineChar.{LineChar}
use Rattle.bidi_display.specs.declared.line_cluster.LineCluster.{LineCluster}
use Rattle.bidi_display.specs.declared.options.DisplayOptions.{DisplayOptions}
use Rattle.bidi_calls.proofs.PlacesLemmas.{length-places}
use Rattle.bidi_calls.specs.DisplayParts.{display_parts, found_parts, own_analysed, parts_by, room_fault, whole_line}
use Rattle.bidi_calls.specs.Flags.{mirrored_if, mirrors, options_by}
use Rattle.bidi_calls.specs.ShownOrder.{shown_order}
use Rattle.bidi_calls.specs.declared.display_buffers.DisplayBuffers.{DisplayBuffers}
use Rattle.bidi_numbers.specs.Faults.{fault_unless, has_room_or_none}
use Rattle.bidi_numbers.specs.declared.fault.Fault.TheVariants.{NoRoom}

-- no cluster has a width
abbrev pub no_width : List ℕ → ℕ
no_width cluster = 0

-- the text of clusters from left to right
abbrev text_of : (ℕ → ℕ) → DisplayOptions → List LineChar → List LineCluster → List ℕ
text_of mirrored_of options cs ks = flat_map (λ (text : List ℕ). text) (at_indexes [] (map (cluster_text options mirrored_of cs) ks) (cluster_order ks))

module _ (options : DisplayOptions) (a : AnalysedText) (level : ℕ) (range : Range ℕ) (line : DisplayedLine) (same : options_of line ≡ options)
    (shown : Displays no_width a level range line) where
  clusters-is : clusters line ≡ clusters_of options no_width (line_chars a level range)
  clusters-is = shown.clusters ∙ ap (λ (o : DisplayOptions). clusters_of o no_width (line_chars a level range)) same

  -- its text, which does not depend on the widths
  pub text-is : (mirrored_of : ℕ → ℕ) → displayed_text mirrored_of line ≡ line_text options mirrored_of a level range
  unfolding displayed_text line_text
  text-is mirrored_of =
      ap (λ (o : DisplayOptions). text_of mirrored_of o (chars line) (clusters line)) same
      ∙ ap (λ (cs : List LineChar). text_of mirrored_of options cs (clusters line)) shown.chars
      ∙ ap (λ (ks : List LineCluster). text_of mirrored_of options (line_chars a level range) ks) clusters-is

  -- its order
  pub order-is : (first : ℕ) → shown_order (options_of line) first (chars line) (clusters line)
      ≡ shown_order options first (line_chars a level range) (clusters_of options no_width (line_chars a level range))
  order-is first =
      ap (λ (o : DisplayOptions). shown_order o first (chars line) (clusters line)) same
      ∙ ap (λ (cs : List LineChar). shown_order options first cs (clusters line)) shown.chars
      ∙ ap (λ (ks : List LineCluster). shown_order options first (line_chars a level range) ks) clusters-is

  -- all that was found of it
  parts-is : {X : Type 0} (encode : ℕ → List X) (mirrored_of : ℕ → ℕ) (text : List X) (order : List ℕ) (count : ℕ)
      → text ≡ flat_map encode (displayed_text mirrored_of line) → order ≡ shown_order (options_of line) 0 (chars line) (clusters line) → count ≡ length (chars line)
      → found_parts text order count ≡ display_parts options mirrored_of encode a level range
  parts-is {X = X} encode mirrored_of text order count of_text of_order of_count =
      let found : List X = flat_map encode (line_text options mirrored_of a level range) in
      let whole : List ℕ = shown_order options 0 (line_chars a level range) (clusters_of options no_width (line_chars a level range)) in
      ap (λ (ts : List X). found_parts ts order count) (of_text ∙ ap (flat_map encode) (text-is mirrored_of))
      ∙ ap (λ (ks : List ℕ). found_parts found ks count) (of_order ∙ order-is 0)
      ∙ ap (λ (n : ℕ). found_parts found whole n) (of_count ∙ ap length shown.chars)

-- the same by the flags of a call
pub found-is : {X : Type 0} (encode : ℕ → List X) (options : DisplayOptions) (flags : ℕ) (on : Bool) (len_of : ℕ → ℕ) (cs : List ℕ) (l : CallerLine) (line : DisplayedLine)
    (text : List X) (order : List ℕ) (count : ℕ) → options ≡ options_by flags → on ≡ mirrors flags → options_of line ≡ options
    → Displays no_width (own_analysed len_of cs l) l.paragraph.now.level (whole_line len_of cs) line → text ≡ flat_map encode (displayed_text (mirrored_if on) line)
    → order ≡ shown_order (options_of line) 0 (chars line) (clusters line) → count ≡ length (chars line) → found_parts text order count ≡ parts_by len_of encode cs l flags
found-is encode options flags on len_of cs l line text order count of_options of_mirrors same shown of_text of_order of_count =
    let a : AnalysedText = own_analysed len_of cs l in
    parts-is options a l.paragraph.now.level (whole_line len_of cs) line same shown encode (mirrored_if on) text order count of_text of_order of_count
    ∙ ap (λ (o : DisplayOptions). display_parts o (mirrored_if on) encode a l.paragraph.now.level (whole_line len_of cs)) of_options
    ∙ ap (λ (b : Bool). display_parts (options_by flags) (mirrored_if b) encode a l.paragraph.now.level (whole_line len_of cs)) of_mirrors

-- what the call reports of the room, by the lengths that it finds
pub reported-room : {X : Type 0} (text : List X) (order : List ℕ) (count units shown : ℕ) (before : DisplayBuffers X) (fits : Bool) → length text ≡ units → length order ≡ shown
    → fits ≡ (has_room_or_none units (length before.text.now) && (has_room_or_none shown (length before.order.now) && has_room_or_none count (length before.places.now)))
    → room_fault (found_parts text order count) before ≡ fault_unless fits NoRoom
reported-room text order count units shown before fits of_text of_order e = simp (of_text, of_order, length-places order count, e) refl
