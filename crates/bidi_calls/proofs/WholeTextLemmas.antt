-- A text that is displayed paragraph by paragraph.
use Rattle.bidi_base.proofs.Common.{◌≡◌, ◌∙◌, ℕ, suc, ◌+◌, ◌-◌, ◌<◌, ◌≤◌, List, [], ◌∷◌, ◌++◌, length, map, flat_map, flat_map-append, map-append, length-map, between, get_or, get_or-map, take, take_more, drop, drop_more, drop_all, take_all, flat_map-map, slice_range, append-nil, append_assoc, refl, sym, ap, ap₂, subst, arith, Range, AnalysedText}
use Rattle.bidi_base.proofs.Common.{All, All-get_or, Bool, None, Option, Source, pieces_by, per_unit, char_index, subrange, IsLine}
use Rattle.bidi_base.proofs.PlacesLemmas.{range_with_len-more}
use Rattle.bidi_base.proofs.TextLemmas.{HasUnits}
use Rattle.bidi_base.specs.declared.char_data.BidiClass.{BidiClass}
use Rattle.std.proofs.lemmas.List.FromFn.{length-range_with_len}
use Rattle.std.specs.List.{range_with_len}
use Rattle.bidi_base.specs.declared.split_rule.SplitRule.{SplitRule}
use Rattle.bidi_paragraphs.specs.ParagraphInfo.{ends_of, ranges_of, levels_of}
use Rattle.bidi_paragraphs.specs.declared.paragraph_info.ParagraphInfo.{ParagraphInfo}
use Rattle.bidi_base.specs.PerChar.{HaveClass}
use Rattle.unicode_bidi.proofs.ContentLemmas.{content-IsLine, end-within, separators-IsLine}
use Rattle.unicode_bidi.specs.Content.{content_len}
use Rattle.unicode_bidi.proofs.ParagraphUnits.{written, AreParagraphsWritten}
use Rattle.unicode_bidi.specs.Base.{stored_levels_with, AreParagraphsWith}
use Rattle.unicode_bidi.specs.Engine.{Follow}
use Rattle.unicode_bidi.specs.declared.base.Base.{Base}
use Rattle.bidi_display.specs.LineChars.{line_chars}
use Rattle.bidi_display.specs.Shown.{chars, clusters, displayed_text, options as options_of, Displays}
use Rattle.bidi_display.specs.TextDisplay.{line_text}
use Rattle.bidi_display.specs.declared.displayed_line.DisplayedLine.{DisplayedLine}
use Rattle.bidi_display.specs.declared.options.DisplayOptions.{DisplayOptions}
use Rattle.bidi_calls.proofs.FoundText.{structs-found}
use Rattle.bidi_calls.proofs.OrderOfRuns.{index-after, char_index-le-unit}
use Rattle.bidi_calls.proofs.PartsLemmas.{no_width, order-is, text-is}
use Rattle.bidi_calls.specs.ShownOrder.{shown_order}
use Rattle.bidi_calls.specs.BaseNumbers.{base_of}
use Rattle.bidi_calls.specs.Buffers.{paragraphs_in}
use Rattle.bidi_calls.specs.DisplayParts.{found_parts}
use Rattle.bidi_calls.specs.Flags.{mirrored_if, mirrors, options_by}
use Rattle.bidi_calls.specs.declared.buffers.Settings.{Settings}
use Rattle.bidi_numbers.specs.Numbers.{split_of}
use Rattle.bidi_numbers.specs.declared.fault.Fault.{Fault}
use Rattle.std.specs.Option.{option_or}
use Rattle.bidi_calls.specs.WholeText.{analysed_by, found_in, AreParts, FoundText, found_by, content, content_end, of_info, paragraph_levels, paragraph_order, paragraph_text}
use Rattle.bidi_numbers.specs.declared.structs.Paragraph.{Paragraph}

-- ---- ascending indexes

pub between-none : (low : ℕ) → between low low ≡ []
between-none low = let none : low - low ≡ 0 = omega arith in ap (range_with_len low) none

pub between-next : (low high : ℕ) → low ≤ high → between low (high + 1) ≡ between low high ++ high ∷ []
between-next low high le =
    let next : high + 1 - low ≡ suc (high - low) = omega (arith, le) in
    let at : low + (high - low) ≡ high = omega (arith, le) in
    ap (range_with_len low) next ∙ range_with_len-more low (high - low) ∙ ap (λ (n : ℕ). between low high ++ n ∷ []) at

-- ---- one paragraph

-- a line has a character for each character of its range
pub length-line_chars : (a : AnalysedText) (level : ℕ) (range : Range ℕ) → length (line_chars a level range) ≡ length (subrange a.len_of a.chars range.start range.end)
unfolding line_chars
length-line_chars a level range =
    let own : List ℕ = subrange a.len_of a.chars range.start range.end in
    length-map (range_with_len 0 (length own)) _ ∙ length-range_with_len 0 (length own)

-- a paragraph from the range and the level that were read
abbrev pub read_paragraph : Range ℕ → ℕ → Paragraph
read_paragraph r level = record { start = r.start; end = r.end; level = level }

pub read-is : (p : ParagraphInfo) (r : Range ℕ) (level : ℕ) → r ≡ p.range → level ≡ p.level → read_paragraph r level ≡ of_info p
read-is p r level of_range of_level = ap₂ read_paragraph of_range of_level

-- `n` code units of it are its content, which `line` shows
module _ (options : DisplayOptions) (a : AnalysedText) (r : Range ℕ) (level n : ℕ) (of_len : n ≡ content_len (slice_range a.classes r.start r.end))
    (line : DisplayedLine) (same : options_of line ≡ options) (shown : Displays no_width a level (record { start = r.start; end = r.start + n }) line) where
  abbrev own : Paragraph
  own = read_paragraph r level

  range-is : record { start = r.start; end = r.start + n } ≡ content a own
  range-is = ap (λ (m : ℕ). record { start = r.start; end = r.start + m }) of_len

  shown-content : Displays no_width a level (content a own) line
  shown-content = subst (λ (q : Range ℕ). Displays no_width a level q line) range-is shown

  pub written-order : (first middle next : ℕ) → first ≡ char_index a.len_of a.chars r.start → middle ≡ char_index a.len_of a.chars (r.start + n) → next ≡ char_index a.len_of a.chars r.end
      → (old with_content new : List ℕ) → with_content ≡ old ++ shown_order (options_of line) first (chars line) (clusters line) → new ≡ with_content ++ between middle next
      → new ≡ old ++ paragraph_order options a own
  written-order first middle next of_first of_middle of_next old with_content new of_content of_new =
      let front : List ℕ = shown_order (options_of line) first (chars line) (clusters line) in
      let front-is = ap (λ (f : ℕ). shown_order (options_of line) f (chars line) (clusters line)) of_first
      ∙ order-is options a level (content a own) line same shown-content (char_index a.len_of a.chars r.start) in
      let back-is = ap₂ between (of_middle ∙ ap (λ (m : ℕ). char_index a.len_of a.chars (r.start + m)) of_len) of_next in
      of_new
      ∙ ap (λ (ks : List ℕ). ks ++ between middle next) of_content
      ∙ append_assoc old front (between middle next)
      ∙ ap (λ (ks : List ℕ). old ++ ks) (ap₂ (λ (ks ls : List ℕ). ks ++ ls) front-is back-is)

  pub written-text : {X : Type 0} (encode : ℕ → List X) (mirrored_of : ℕ → ℕ) (old with_content new : List X) (rest : List ℕ)
      → with_content ≡ old ++ flat_map encode (displayed_text mirrored_of line) → rest ≡ subrange a.len_of a.chars (r.start + n) r.end → new ≡ with_content ++ flat_map encode rest
      → new ≡ old ++ flat_map encode (paragraph_text options mirrored_of a own)
  written-text {X = X} encode mirrored_of old with_content new rest of_content of_rest of_new =
      let front : List ℕ = line_text options mirrored_of a level (content a own) in
      let back : List ℕ = subrange a.len_of a.chars (content_end a own) r.end in
      let rest-is : rest ≡ back = of_rest ∙ ap (λ (m : ℕ). subrange a.len_of a.chars (r.start + m) r.end) of_len in
      of_new
      ∙ ap (λ (us : List X). us ++ flat_map encode rest) (of_content ∙ ap (λ (cs : List ℕ). old ++ flat_map encode cs) (text-is options a level (content a own) line same shown-content mirrored_of))
      ∙ append_assoc old (flat_map encode front) (flat_map encode rest)
      ∙ ap (λ (us : List X). old ++ us) (ap (λ (cs : List ℕ). flat_map encode front ++ flat_map encode cs) rest-is ∙ sym (flat_map-append encode front back))

-- how many characters come before its separators, and before its end
module _ (a : AnalysedText) (units : HasUnits a.len_of) (per_char : HaveClass a.len_of a.chars a.classes) (r : Range ℕ) (is_line : IsLine a.len_of a.chars r.start r.end)
    (n : ℕ) (of_len : n ≡ content_len (slice_range a.classes r.start r.end)) where
  pub content-line : IsLine a.len_of a.chars r.start (r.start + n)
  content-line = rw of_len (content-IsLine a.len_of units a.chars a.classes per_char r.start r.end is_line)

  pub separators-line : IsLine a.len_of a.chars (r.start + n) r.end
  separators-line = rw of_len (separators-IsLine a.len_of units a.chars a.classes per_char r.start r.end is_line)

  pub before-separators : (level : ℕ) (line : DisplayedLine) → Displays no_width a level (record { start = r.start; end = r.start + n }) line
      → (first count : ℕ) → first ≡ char_index a.len_of a.chars r.start → count ≡ length (chars line) → first + count ≡ char_index a.len_of a.chars (r.start + n)
  before-separators level line shown first count of_first of_count =
      index-after a.len_of units a.chars r.start (r.start + n) first count content-line of_first
      (of_count ∙ ap length shown.chars ∙ length-line_chars a level (record { start = r.start; end = r.start + n }))

  pub before-end : (middle count : ℕ) → middle ≡ char_index a.len_of a.chars (r.start + n) → count ≡ length (subrange a.len_of a.chars (r.start + n) r.end)
      → middle + count ≡ char_index a.len_of a.chars r.end
  before-end middle count of_middle of_count = index-after a.len_of units a.chars (r.start + n) r.end middle count separators-line of_middle of_count

  -- no more than there are code units
  end-fits : r.end ≤ length a.classes
  end-fits = end-within a.len_of units a.chars a.classes per_char r.start r.end is_line

  pub before-separators-fits : char_index a.len_of a.chars (r.start + n) ≤ length a.classes
  before-separators-fits = omega (arith, char_index-le-unit a.len_of units a.chars (r.start + n) content-line.ends, separators-line.ordered, end-fits)

  pub before-end-fits : char_index a.len_of a.chars r.end ≤ length a.classes
  before-end-fits = omega (arith, char_index-le-unit a.len_of units a.chars r.end is_line.ends, end-fits)

-- ---- one paragraph after another

-- what holds of each range holds of a paragraph's
pub own-range : (P : ℕ × ℕ → Type 0) (ps : List ParagraphInfo) (k : ℕ) (p : ParagraphInfo) → k < length ps → p ≡ get_or ps k p → All P (ranges_of ps) → P (p.range.start, p.range.end)
own-range P ps k p fits read all =
    subst P (get_or-map ends_of ps k p (0, 0) fits ∙ ap ends_of (sym read)) (All-get_or P (ranges_of ps) k (0, 0) (let e = length-map ps ends_of in omega (arith, e, fits)) all)

-- paragraphs that follow one another end at or after their start
pub follow-le : (from end : ℕ) (ps : List ParagraphInfo) → Follow from end ps → from ≤ end
follow-le from end [] e = omega (arith, e)
follow-le from end (p ∷ ps) h = let rest = follow-le p.range.end end ps h.1 in omega (arith, h.0, rest, p.ordered)

-- one more paragraph
pub more-of : {X : Type 0} (f : Paragraph → List X) (ps : List ParagraphInfo) (k : ℕ) (p : ParagraphInfo) → k < length ps → p ≡ get_or ps k p
    → flat_map f (map of_info (take (k + 1) ps)) ≡ flat_map f (map of_info (take k ps)) ++ f (of_info p)
more-of f ps k p fits read =
    let one : map of_info (take (k + 1) ps) ≡ map of_info (take k ps) ++ of_info p ∷ [] =
    ap (map of_info) (take_more ps k p fits) ∙ map-append of_info (take k ps) (get_or ps k p ∷ [])
    ∙ ap (λ (q : ParagraphInfo). map of_info (take k ps) ++ of_info q ∷ []) (sym read) in
    ap (flat_map f) one ∙ flat_map-append f (map of_info (take k ps)) (of_info p ∷ [])
    ∙ ap (λ xs. flat_map f (map of_info (take k ps)) ++ xs) (append-nil (f (of_info p)))

-- one more paragraph is written
pub written-next : {X : Type 0} (f : Paragraph → List X) (ps : List ParagraphInfo) (k : ℕ) (p : ParagraphInfo) → k < length ps → p ≡ get_or ps k p
    → (old so_far new : List X) → so_far ≡ old ++ flat_map f (map of_info (take k ps)) → new ≡ so_far ++ f (of_info p) → new ≡ old ++ flat_map f (map of_info (take (k + 1) ps))
written-next {X = X} f ps k p fits read old so_far new before after =
    after ∙ ap (λ (xs : List X). xs ++ f (of_info p)) before ∙ append_assoc old (flat_map f (map of_info (take k ps))) (f (of_info p))
    ∙ ap (λ (xs : List X). old ++ xs) (sym (more-of f ps k p fits read))

-- the same in an encoding
pub encoded-next : {X : Type 0} (encode : ℕ → List X) (f : Paragraph → List ℕ) (ps : List ParagraphInfo) (k : ℕ) (p : ParagraphInfo) → k < length ps → p ≡ get_or ps k p
    → (old so_far new : List X) → so_far ≡ old ++ flat_map encode (flat_map f (map of_info (take k ps))) → new ≡ so_far ++ flat_map encode (f (of_info p))
    → new ≡ old ++ flat_map encode (flat_map f (map of_info (take (k + 1) ps)))
encoded-next {X = X} encode f ps k p fits read old so_far new before after =
    let front : List ℕ = flat_map f (map of_info (take k ps)) in
    after ∙ ap (λ (xs : List X). xs ++ flat_map encode (f (of_info p))) before ∙ append_assoc old (flat_map encode front) (flat_map encode (f (of_info p)))
    ∙ ap (λ (xs : List X). old ++ xs) (sym (ap (flat_map encode) (more-of f ps k p fits read) ∙ flat_map-append encode front (f (of_info p))))

-- paragraphs from the k-th on follow one another, and it is the first of them
pub next-in-order : (ps : List ParagraphInfo) (k : ℕ) (p : ParagraphInfo) → k < length ps → p ≡ get_or ps k p → (from end : ℕ) → Follow from end (drop k ps)
    → (p.range.start ≡ from) × Follow p.range.end end (drop (k + 1) ps)
next-in-order ps k p fits read from end h =
    subst (λ qs. Follow from end qs) (drop_more ps k p fits ∙ ap (λ (q : ParagraphInfo). q ∷ drop (k + 1) ps) (sym read)) h

-- ---- L1, paragraph by paragraph

-- the next paragraph after k
module _ (classes : List BidiClass) (start : List ℕ) (ps : List ParagraphInfo) (long : length start ≡ length classes) (k : ℕ) (levels : List ℕ) (p : ParagraphInfo)
    (fits : k < length ps) (read : p ≡ get_or ps k p) (so_far : AreParagraphsWritten (λ q. paragraph_levels classes start (of_info q)) start ps k levels) where
  abbrev own_levels : ParagraphInfo → List ℕ
  own_levels q = paragraph_levels classes start (of_info q)

  next-follows : Follow (length (written own_levels start ps k)) (length start) (p ∷ drop (k + 1) ps)
  next-follows = subst (λ qs. Follow (length (written own_levels start ps k)) (length start) qs) (drop_more ps k p fits ∙ ap (λ (q : ParagraphInfo). q ∷ drop (k + 1) ps) (sym read)) so_far.follow

  pub next-within : p.range.end ≤ length start
  next-within = follow-le p.range.end (length start) (drop (k + 1) ps) next-follows.1

-- after the last paragraph
pub all-reset : (classes : List BidiClass) (start : List ℕ) (ps : List ParagraphInfo) (k : ℕ) (levels : List ℕ) → length ps ≤ k
    → AreParagraphsWritten (λ q. paragraph_levels classes start (of_info q)) start ps k levels → levels ≡ flat_map (paragraph_levels classes start) (map of_info ps)
all-reset classes start ps k levels past so_far =
    let own : ParagraphInfo → List ℕ = λ q. paragraph_levels classes start (of_info q) in
    let end : length (written own start ps k) ≡ length start = subst (λ qs. Follow (length (written own start ps k)) (length start) qs) (drop_all k ps past) so_far.follow in
    let none : drop (length (written own start ps k)) start ≡ [] = drop_all (length (written own start ps k)) start (omega (arith, end)) in
    so_far.all ∙ ap (λ (ls : List ℕ). written own start ps k ++ ls) none ∙ append-nil (written own start ps k) ∙ ap (flat_map own) (take_all k ps past)
    ∙ sym (flat_map-map (paragraph_levels classes start) of_info ps)

-- ---- what is found in a text

module _ (source : Source) (base : Base) (rule : Option SplitRule) (len_of : ℕ → ℕ) (cs : List ℕ) (classes : List BidiClass) (ps : List ParagraphInfo)
    (are : AreParagraphsWith source base rule len_of cs classes (ranges_of ps) (levels_of ps)) where
  pub found-infos : map of_info ps ≡ paragraphs_in source base rule len_of cs
  found-infos = structs-found source base rule len_of cs classes ps are

  -- the lists are those of the text
  pub found-parts : {X : Type 0} (options : DisplayOptions) (mirrored_of : ℕ → ℕ) (encode : ℕ → List X) (stored levels order : List ℕ) (text : List X)
      → stored ≡ per_unit len_of cs (flat_map (stored_levels_with source base) (pieces_by rule source cs))
      → levels ≡ flat_map (paragraph_levels classes stored) (map of_info ps)
      → order ≡ flat_map (paragraph_order options (record { len_of = len_of; chars = cs; classes = classes; levels = stored })) (map of_info ps)
      → text ≡ flat_map encode (flat_map (paragraph_text options mirrored_of (record { len_of = len_of; chars = cs; classes = classes; levels = stored })) (map of_info ps))
      → AreParts (found_in source base rule options mirrored_of len_of encode cs) levels text order
  found-parts {X = X} options mirrored_of encode stored levels order text of_stored of_levels of_order of_text =
      let all : List Paragraph = paragraphs_in source base rule len_of cs in
      let analysed : record { len_of = len_of; chars = cs; classes = classes; levels = stored } ≡ analysed_by source base rule len_of cs =
      ap₂ (λ (ks : List BidiClass) (ls : List ℕ). record { len_of = len_of; chars = cs; classes = ks; levels = ls }) are.classes of_stored in
      record {
        levels = of_levels ∙ ap (flat_map (paragraph_levels classes stored)) found-infos ∙ ap (λ (a : AnalysedText). flat_map (paragraph_levels a.classes a.levels) all) analysed;
        text = of_text ∙ ap (λ (qs : List Paragraph). flat_map encode (flat_map (paragraph_text options mirrored_of (record { len_of = len_of; chars = cs; classes = classes; levels = stored })) qs)) found-infos
            ∙ ap (λ (a : AnalysedText). flat_map encode (flat_map (paragraph_text options mirrored_of a) all)) analysed;
        order = of_order ∙ ap (flat_map (paragraph_order options (record { len_of = len_of; chars = cs; classes = classes; levels = stored }))) found-infos
            ∙ ap (λ (a : AnalysedText). flat_map (paragraph_order options a) all) analysed;
      }

-- all parts of a text, with the places of its characters
pub all-parts : {X : Type 0} (found : FoundText X) (a_chars : List ℕ) (levels order : List ℕ) (text : List X) (count : ℕ) → found.parts ≡ found_parts found.parts.text found.parts.order (length a_chars)
    → AreParts found levels text order → count ≡ length a_chars → found_parts text order count ≡ found.parts
all-parts {X = X} found a_chars levels order text count own are of_count =
    ap (λ (us : List X). found_parts us order count) are.text ∙ ap (λ (ks : List ℕ). found_parts found.parts.text ks count) are.order
    ∙ ap (λ (n : ℕ). found_parts found.parts.text found.parts.order n) of_count ∙ sym own

-- from the numbers of a caller
pub found-is : {X : Type 0} (source : Source) (settings : Settings) (flags : ℕ) (len_of : ℕ → ℕ) (encode : ℕ → List X) (cs : List ℕ) (base : Base) (rule : Option SplitRule) (options : DisplayOptions)
    (on : Bool) (read : List ℕ) → base ≡ base_of settings.base → rule ≡ split_of settings.split → options ≡ options_by flags → on ≡ mirrors flags → read ≡ cs
    → found_in source base rule options (mirrored_if on) len_of encode read ≡ found_by source settings flags len_of encode cs
found-is source settings flags len_of encode cs base rule options on read of_base of_rule of_options of_mirrors of_chars =
    ap (λ (b : Base). found_in source b rule options (mirrored_if on) len_of encode read) of_base
    ∙ ap (λ (r : Option SplitRule). found_in source (base_of settings.base) r options (mirrored_if on) len_of encode read) of_rule
    ∙ ap (λ (o : DisplayOptions). found_in source (base_of settings.base) (split_of settings.split) o (mirrored_if on) len_of encode read) of_options
    ∙ ap (λ (b : Bool). found_in source (base_of settings.base) (split_of settings.split) (options_by flags) (mirrored_if b) len_of encode read) of_mirrors
    ∙ ap (λ (ks : List ℕ). found_by source settings flags len_of encode ks) of_chars

-- the last fault, where there is none before it
pub last-fault : (first second third fourth last : Option Fault) → None ≡ first → None ≡ second → None ≡ third → None ≡ fourth
    → option_or first (option_or second (option_or third (option_or fourth last))) ≡ last
last-fault first second third fourth last p q r s = rw (← p, ← q, ← r, ← s) refl
