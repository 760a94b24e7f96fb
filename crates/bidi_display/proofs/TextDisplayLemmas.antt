-- The displayed text of a whole text, paragraph by paragraph.
use Rattle.bidi_base.proofs.Common.{◌≡◌, ◌∙◌, ℕ, ◌+◌, ◌<◌, List, [], ◌∷◌, ◌++◌, length, map, flat_map, flat_map-append, get_or, get_or-map, take, take_more, append-nil, encode_utf8, append_assoc, sym, ap, subst, arith, All, All-get_or, Ok, Err, Result, OnOk, Range, AnalysedText, at_indexes, length-map, subrange, slice_range}
use Rattle.unicode_bidi.specs.Content.{content_len}
use Rattle.bidi_paragraphs.specs.ParagraphInfo.{ranges_of}
use Rattle.bidi_paragraphs.specs.declared.paragraph_info.ParagraphInfo.{ParagraphInfo}
use Rattle.bidi_display.specs.DisplayedLine.{clusters_of, cluster_order}
use Rattle.bidi_display.specs.LineChars.{line_chars}
use Rattle.bidi_display.specs.Shown.{chars, clusters, cluster_text, displayed_text, options as options_of, Displays}
use Rattle.bidi_display.specs.TextDisplay.{content, content_end, displayed_paragraph, line_text}
use Rattle.bidi_display.specs.declared.displayed_line.DisplayedLine.{DisplayedLine}
use Rattle.bidi_display.specs.declared.line_char.LineChar.{LineChar}
use Rattle.bidi_display.specs.declared.line_cluster.LineCluster.{LineCluster}
use Rattle.bidi_display.specs.declared.options.DisplayOptions.{DisplayOptions}

-- what holds if a call succeeds follows from what it returns
pub on_ok : {A E P Q : Type 0} (result : Result A E) → (P → Q) → OnOk result P → OnOk result Q
on_ok (Ok x) step given = step given
on_ok (Err e) step given = tt

-- no cluster has a width
abbrev pub no_width : List ℕ → ℕ
no_width cluster = 0

-- the text of clusters from left to right
abbrev text_of : (ℕ → ℕ) → DisplayOptions → List LineChar → List LineCluster → List ℕ
text_of mirrored_of options cs ks = flat_map (λ (text : List ℕ). text) (at_indexes [] (map (cluster_text options mirrored_of cs) ks) (cluster_order ks))

module _ (options : DisplayOptions) (mirrored_of : ℕ → ℕ) (a : AnalysedText) where
  -- the text of a line that is shown
  displayed_text-is : (level : ℕ) (range : Range ℕ) (line : DisplayedLine) → options_of line ≡ options → Displays no_width a level range line
      → displayed_text mirrored_of line ≡ line_text options mirrored_of a level range
  unfolding displayed_text line_text
  displayed_text-is level range line same shown =
      let cs : List LineChar = line_chars a level range in
      ap (λ (o : DisplayOptions). text_of mirrored_of o (chars line) (clusters line)) same
      ∙ ap (λ (ds : List LineChar). text_of mirrored_of options ds (clusters line)) shown.chars
      ∙ ap (λ (ks : List LineCluster). text_of mirrored_of options cs ks) (shown.clusters ∙ ap (λ (o : DisplayOptions). clusters_of o no_width cs) same)

  -- a paragraph is written: its content, and then its separators
  written-parts : (p : ParagraphInfo) (line : DisplayedLine) (old shown new rest : List ℕ) → options_of line ≡ options → Displays no_width a p.level (content a p) line
      → shown ≡ old ++ flat_map encode_utf8 (displayed_text mirrored_of line) → rest ≡ subrange a.len_of a.chars (content_end a p) p.range.end
      → new ≡ shown ++ flat_map encode_utf8 rest → new ≡ old ++ flat_map encode_utf8 (displayed_paragraph options mirrored_of a p)
  written-parts p line old shown new rest same displays of_line of_rest of_new =
      let front : List ℕ = line_text options mirrored_of a p.level (content a p) in
      let back : List ℕ = subrange a.len_of a.chars (content_end a p) p.range.end in
      of_new
      ∙ ap (λ (bytes : List ℕ). bytes ++ flat_map encode_utf8 rest) (of_line ∙ ap (λ (cs : List ℕ). old ++ flat_map encode_utf8 cs) (displayed_text-is p.level (content a p) line same displays))
      ∙ ap (λ (cs : List ℕ). (old ++ flat_map encode_utf8 front) ++ flat_map encode_utf8 cs) of_rest
      ∙ append_assoc old (flat_map encode_utf8 front) (flat_map encode_utf8 back)
      ∙ ap (λ (bytes : List ℕ). old ++ bytes) (sym (flat_map-append encode_utf8 front back))

  -- the same at the range, the level and the length of the content that were read
  pub written-paragraph : (p : ParagraphInfo) (r : Range ℕ) (level n : ℕ) → r ≡ p.range → level ≡ p.level → n ≡ content_len (slice_range a.classes r.start r.end)
      → (line : DisplayedLine) (old shown new rest : List ℕ) → options_of line ≡ options → Displays no_width a level (record { start = r.start; end = r.start + n }) line
      → shown ≡ old ++ flat_map encode_utf8 (displayed_text mirrored_of line) → rest ≡ subrange a.len_of a.chars (r.start + n) r.end
      → new ≡ shown ++ flat_map encode_utf8 rest → new ≡ old ++ flat_map encode_utf8 (displayed_paragraph options mirrored_of a p)
  written-paragraph p r level n of_range of_level of_len line old shown new rest same displays of_line of_rest of_new =
      let range : record { start = r.start; end = r.start + n } ≡ content a p =
      ap (λ (m : ℕ). record { start = r.start; end = r.start + m }) of_len
      ∙ ap (λ (q : Range ℕ). record { start = q.start; end = q.start + content_len (slice_range a.classes q.start q.end) }) of_range in
      let back : subrange a.len_of a.chars (r.start + n) r.end ≡ subrange a.len_of a.chars (content_end a p) p.range.end =
      ap (λ (m : ℕ). subrange a.len_of a.chars (r.start + m) r.end) of_len
      ∙ ap (λ (q : Range ℕ). subrange a.len_of a.chars (q.start + content_len (slice_range a.classes q.start q.end)) q.end) of_range in
      let at_level : Displays no_width a p.level (record { start = r.start; end = r.start + n }) line = subst (λ (l : ℕ). Displays no_width a l (record { start = r.start; end = r.start + n }) line) of_level displays in
      written-parts p line old shown new rest same (subst (λ (q : Range ℕ). Displays no_width a p.level q line) range at_level) of_line (of_rest ∙ back) of_new

-- a paragraph of a list of paragraphs
module _ (ps : List ParagraphInfo) (k : ℕ) (p : ParagraphInfo) (fits : k < length ps) (read : p ≡ get_or ps k p) where
  abbrev range : ParagraphInfo → ℕ × ℕ
  range q = (q.range.start, q.range.end)

  -- what holds of each range holds of its range
  pub own-range : (P : ℕ × ℕ → Type 0) → All P (ranges_of ps) → P (p.range.start, p.range.end)
  own-range P all =
      subst P (get_or-map range ps k p (0, 0) fits ∙ ap range (sym read))
      (All-get_or P (ranges_of ps) k (0, 0) (let e = length-map ps range in omega arith) all)

  -- one more paragraph is written
  pub written-next : (f : ParagraphInfo → List ℕ) (old so_far new : List ℕ) → so_far ≡ old ++ flat_map encode_utf8 (flat_map f (take k ps))
      → new ≡ so_far ++ flat_map encode_utf8 (f p) → new ≡ old ++ flat_map encode_utf8 (flat_map f (take (k + 1) ps))
  written-next f old so_far new before after =
      let more : flat_map f (take (k + 1) ps) ≡ flat_map f (take k ps) ++ f p =
      ap (flat_map f) (take_more ps k p fits) ∙ flat_map-append f (take k ps) (get_or ps k p ∷ [])
      ∙ ap (λ (cs : List ℕ). flat_map f (take k ps) ++ cs) (append-nil (f (get_or ps k p)) ∙ ap f (sym read)) in
      after
      ∙ ap (λ (bytes : List ℕ). bytes ++ flat_map encode_utf8 (f p)) before
      ∙ append_assoc old (flat_map encode_utf8 (flat_map f (take k ps))) (flat_map encode_utf8 (f p))
      ∙ ap (λ (bytes : List ℕ). old ++ bytes) (sym (ap (flat_map encode_utf8) more ∙ flat_map-append encode_utf8 (flat_map f (take k ps)) (f p)))
