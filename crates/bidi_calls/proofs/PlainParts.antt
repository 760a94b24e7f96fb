-- The parts of a displayed line whose characters move one by one and are displayed as they are.
use Rattle.bidi_base.proofs.Common.{◌≡◌, ◌∙◌, ℕ, zero, suc, ◌+◌, ◌-◌, ◌<◌, true, false, All, List, [], ◌∷◌, ◌++◌, length, map, flat_map, get_or, take, drop, refl, sym, ap, ap₂, arith, inl, inr, cases_Bool, is_odd, at_indexes, indexes, range_with_len}
use Rattle.bidi_base.proofs.Common.{get_or-map, length-map, flat_map-map, drop-cons, drop-append-add, take-append_seam, slice_range, unit_index, subrange, text_len, per_char, visual_order, sum_by-cons, same_number_lists, length-range_with_len, get_or-range_with_len, map-id, zero-add, if◌then◌else◌}
use Rattle.std.proofs.lemmas.List.Concat.{flat_map_single}
use Rattle.bidi_base.specs.declared.char_data.BidiClass.{BidiClass}
use Rattle.bidi_base.specs.declared.char_data.BidiClass.TheVariants.{L}
use Rattle.bidi_base.proofs.PerUnit.{length-per_char}
use Rattle.bidi_base.proofs.TextLemmas.{HasUnits}
use Rattle.bidi_lines.proofs.CharRuns.{map-same_on}
use Rattle.bidi_lines.proofs.Ordered.{visual_order-is}
use Rattle.bidi_lines.proofs.Pieces.{at_indexes-map}
use Rattle.bidi_lines.proofs.RunText.{flat_map-same_on}
use Rattle.bidi_lines.proofs.VisualRuns.{order_below}
use Rattle.bidi_display.specs.DisplayedLine.{clusters_from, clusters_of, cluster_order, cluster_width, add_columns, levels_of}
use Rattle.bidi_display.specs.LineChars.{line_char_at, line_chars, line_chars_by}
use Rattle.bidi_display.specs.LineClusters.{begins_cluster, clusters_after, displayed_before, displayed_chars, line_clusters, cluster_level}
use Rattle.bidi_display.specs.Shown.{cluster_text, displayed_char}
use Rattle.bidi_display.specs.TextDisplay.{line_text}
use Rattle.bidi_display.specs.declared.line_char.LineChar.{LineChar}
use Rattle.bidi_display.specs.declared.line_cluster.LineCluster.{LineCluster}
use Rattle.bidi_display.specs.declared.options.DisplayOptions.{DisplayOptions}
use Rattle.bidi_calls.proofs.CallerText.{caller-chars, whole-subrange}
use Rattle.bidi_calls.proofs.PartsLemmas.{no_width}
use Rattle.bidi_calls.specs.declared.line.CallerLine.{CallerLine}
use Rattle.bidi_calls.specs.CallerLine.{IsValid, caller_line_levels}
use Rattle.bidi_calls.specs.DisplayParts.{found_parts, own_analysed, parts_by, whole_line}
use Rattle.bidi_calls.specs.Flags.{mirrored_if, options_by}
use Rattle.bidi_calls.specs.LineText.{are_entries_per_char, line_classes, order_of_line, reordered, written_units}
use Rattle.bidi_calls.specs.ShownOrder.{shown_from, shown_in, shown_order}

-- ---- each character is a cluster

-- the options of a line whose characters move one by one and are all displayed
abbrev plain : DisplayOptions
plain = options_by 0

begins : (before cs : List LineChar) → begins_cluster plain before cs ≡ true
begins before [] = refl
begins before (c ∷ cs) = refl

-- a character as a cluster
abbrev single : LineChar → List LineChar
single c = c ∷ []

singles : (before cs : List LineChar) → clusters_after plain before cs ≡ map single cs
singles before [] = refl
singles before (c ∷ cs) = let read = displayed_before plain.dropped before c in simp (begins read cs, singles read cs)

-- the clusters of these characters, the first of which has this index and begins at this column
abbrev found : ℕ → ℕ → List LineChar → List LineCluster
found at column cs = clusters_from plain no_width at column (map single cs)

level-single : (c : LineChar) → cluster_level plain (single c) ≡ c.level
level-single c = grind arith

levels-found : (at column : ℕ) (cs : List LineChar) → levels_of (found at column cs) ≡ map (λ c. c.level) cs
levels-found at column [] = refl
levels-found at column (c ∷ cs) =
    let rest = levels-found (at + 1) (add_columns column (cluster_width plain no_width column (single c))) cs in simp (level-single c, rest)

-- what each cluster has by the indexes of its characters
map-found : {X : Type 0} (own : ℕ → ℕ → X) (at column : ℕ) (cs : List LineChar)
    → map (λ k. own k.chars_start k.chars_end) (found at column cs) ≡ map (λ i. own i (i + 1)) (range_with_len at (length cs))
map-found own at column [] = refl
map-found own at column (c ∷ cs) =
    let rest = map-found own (at + 1) (add_columns column (cluster_width plain no_width column (single c))) cs in simp rest

-- ---- what each character has, in some order

joined : {X : Type 0} (own : ℕ → List X) (one : ℕ → X) (n : ℕ) (order : List ℕ) → ((k : ℕ) → k < n → own k ≡ one k ∷ []) → All (λ k. k < n) order
    → flat_map (λ (part : List X). part) (at_indexes [] (map own (range_with_len 0 n)) order) ≡ map one order
joined {X = X} own one n order each below =
    let parts : List (List X) = map own (range_with_len 0 n) in
    let at : (k : ℕ) → k < n → get_or parts k [] ≡ one k ∷ [] = λ k within.
    get_or-map own (range_with_len 0 n) k 0 [] (omega (arith, within, length-range_with_len 0 n))
    ∙ ap own (get_or-range_with_len 0 n k 0 within ∙ omega arith)
    ∙ each k within in
    ap (flat_map (λ (part : List X). part)) (at_indexes-map [] parts order)
    ∙ flat_map-map (λ (part : List X). part) (λ k. get_or parts k []) order
    ∙ flat_map-same_on (λ k. get_or parts k []) (λ k. one k ∷ []) order (λ i d fits. at (get_or order i d) (below i d fits))
    ∙ flat_map_single one order

-- a part of one character
one_part : (cs : List LineChar) (k : ℕ) (d : LineChar) → k < length cs → slice_range cs k (k + 1) ≡ get_or cs k d ∷ []
one_part cs k d within = let one : k + 1 - k ≡ 1 = omega arith in simp (one, drop-cons cs k d within) refl

module _ (cs : List LineChar) where
  index-in : (k : ℕ) → k < length cs → shown_from plain (0 + k) (slice_range cs k (k + 1)) ≡ k ∷ []
  index-in k within = let d : LineChar = record { start = 0; end = 0; char = 0; class = L; level = 0 } in simp (one_part cs k d within, zero-add) refl

  displayed : (c : LineChar) → (if is_odd c.level then mirrored_if false c.char else c.char) ≡ c.char
  displayed c = elim (cases_Bool (is_odd c.level)) [
    | inl odd ↦ simp odd refl
    | inr even ↦ simp even refl
  ]

  char-in : (k : ℕ) (d : LineChar) → k < length cs
      → map (displayed_char (mirrored_if false)) (displayed_chars plain (slice_range cs k (k + 1))) ≡ (get_or cs k d).char ∷ []
  char-in k d within = simp (one_part cs k d within, displayed (get_or cs k d)) refl

  abbrev own_clusters : List LineCluster
  own_clusters = clusters_of plain no_width cs

  clusters-is : own_clusters ≡ found 0 0 cs
  unfolding clusters_of line_clusters
  clusters-is = ap (clusters_from plain no_width 0 0) (singles [] cs)

  order-is : cluster_order own_clusters ≡ visual_order (map (λ c. c.level) cs)
  order-is = ap visual_order (ap levels_of clusters-is ∙ levels-found 0 0 cs)

  below : All (λ k. k < length cs) (visual_order (map (λ c. c.level) cs))
  below = let levels : List ℕ = map (λ c. c.level) cs in order_below levels (visual_order levels) (length cs) (length-map cs (λ c. c.level)) (visual_order-is levels)

  -- the order of the line is that of its characters
  shown_order-plain : shown_order plain 0 cs own_clusters ≡ visual_order (map (λ c. c.level) cs)
  unfolding shown_order
  shown_order-plain =
      let order : List ℕ = visual_order (map (λ c. c.level) cs) in
      ap₂ (λ ks ps. flat_map (λ (indexes : List ℕ). indexes) (at_indexes [] (map (shown_in plain 0 cs) ks) ps)) clusters-is order-is
      ∙ ap (λ parts. flat_map (λ (indexes : List ℕ). indexes) (at_indexes [] parts order)) (map-found (λ i j. shown_from plain (0 + i) (slice_range cs i j)) 0 0 cs)
      ∙ joined (λ i. shown_from plain (0 + i) (slice_range cs i (i + 1))) (λ k. k) (length cs) order index-in below
      ∙ map-id order

  -- and so is its text
  text-plain : (d : LineChar)
      → flat_map (λ (text : List ℕ). text) (at_indexes [] (map (cluster_text plain (mirrored_if false) cs) own_clusters) (cluster_order own_clusters))
      ≡ map (λ k. (get_or cs k d).char) (visual_order (map (λ c. c.level) cs))
  text-plain d =
      let order : List ℕ = visual_order (map (λ c. c.level) cs) in
      let own : ℕ → ℕ → List ℕ = λ i j. map (displayed_char (mirrored_if false)) (displayed_chars plain (slice_range cs i j)) in
      ap₂ (λ ks ps. flat_map (λ (text : List ℕ). text) (at_indexes [] (map (cluster_text plain (mirrored_if false) cs) ks) ps)) clusters-is order-is
      ∙ ap (λ parts. flat_map (λ (text : List ℕ). text) (at_indexes [] parts order)) (map-found own 0 0 cs)
      ∙ joined (λ i. own i (i + 1)) (λ k. (get_or cs k d).char) (length cs) order (λ k within. char-in k d within) below

-- ---- the characters of the line

module _ (len_of : ℕ → ℕ) (chars : List ℕ) (classes : List BidiClass) (levels : List ℕ) (long : length levels ≡ length chars) where
  abbrev line : List LineChar
  line = line_chars_by len_of 0 chars classes levels

  length-line_chars : length line ≡ length chars
  length-line_chars = length-map (range_with_len 0 (length chars)) (line_char_at len_of 0 chars classes levels) ∙ length-range_with_len 0 (length chars)

  line_char : (k : ℕ) → k < length chars → get_or line k (line_char_at len_of 0 chars classes levels 0) ≡ line_char_at len_of 0 chars classes levels k
  line_char k within =
      get_or-map (line_char_at len_of 0 chars classes levels) (range_with_len 0 (length chars)) k 0 _ (omega (arith, within, length-range_with_len 0 (length chars)))
      ∙ ap (line_char_at len_of 0 chars classes levels) (get_or-range_with_len 0 (length chars) k 0 within ∙ omega arith)

  levels-is : map (λ c. c.level) line ≡ levels
  levels-is =
      same_number_lists _ _ (length-map line (λ c. c.level) ∙ length-line_chars ∙ sym long)
      (λ k inside.
      let within : k < length chars = omega (arith, inside, length-map line (λ c. c.level), length-line_chars) in
      get_or-map (λ (c : LineChar). c.level) line k (line_char_at len_of 0 chars classes levels 0) 0 (omega (arith, within, length-line_chars)) ∙ ap (λ (c : LineChar). c.level) (line_char k within))

-- ---- its code units

module _ {X : Type 0} (len_of : ℕ → ℕ) (encode : ℕ → List X) (each : (c : ℕ) → length (encode c) ≡ len_of c) where
  -- the code units of the characters from the k-th on
  drop-encoded : (cs : List ℕ) (k : ℕ) → drop (unit_index len_of cs k) (flat_map encode cs) ≡ flat_map encode (drop k cs)
  drop-encoded [] zero = refl
  drop-encoded [] (suc k) = refl
  drop-encoded (c ∷ cs) zero = refl
  drop-encoded (c ∷ cs) (suc k) =
      let size : unit_index len_of (c ∷ cs) (suc k) ≡ length (encode c) + unit_index len_of cs k = omega (arith, each c, sum_by-cons len_of c (take k cs)) in
      ap (λ n. drop n (encode c ++ flat_map encode cs)) size ∙ drop-append-add (encode c) (flat_map encode cs) (unit_index len_of cs k) ∙ drop-encoded cs k

  -- and those of the k-th
  one-encoded : (cs : List ℕ) (k : ℕ) → k < length cs
      → slice_range (flat_map encode cs) (unit_index len_of cs k) (unit_index len_of cs k + len_of (get_or cs k 0)) ≡ encode (get_or cs k 0)
  one-encoded cs k within =
      let c : ℕ = get_or cs k 0 in
      let size : unit_index len_of cs k + len_of c - unit_index len_of cs k ≡ length (encode c) = omega (arith, each c) in
      ap₂ (λ n us. take n us) size (drop-encoded cs k ∙ ap (flat_map encode) (drop-cons cs k 0 within))
      ∙ take-append_seam (encode c) (flat_map encode (drop (suc k) cs))

  module _ (some : HasUnits len_of) (chars : List ℕ) (l : CallerLine) (valid : IsValid l) (equal : are_entries_per_char len_of chars l ≡ true)
      (long : text_len len_of chars + l.start ≡ l.end) where
    abbrev shown : List ℕ
    shown = per_char 0 len_of chars (caller_line_levels l)

    all_below : All (λ k. k < length chars) (visual_order shown)
    all_below = order_below shown (visual_order shown) (length chars) (length-per_char 0 len_of chars (caller_line_levels l)) (visual_order-is shown)

    -- the text of the line, from its code units
    reordered-encoded : (units : List X) → units ≡ flat_map encode chars
        → reordered len_of encode chars units l ≡ flat_map encode (map (λ k. get_or chars k 0) (visual_order shown))
    unfolding reordered order_of_line
    reordered-encoded units of_units =
        let one : (k : ℕ) → k < length chars → written_units len_of encode chars units shown k ≡ encode (get_or chars k 0) = λ k within.
        elim (cases_Bool (is_odd (get_or shown k 0))) [
          | inl odd ↦ simp odd refl
          | inr even ↦ simp (even, of_units) (one-encoded chars k within)
        ] in
        flat_map-same_on (written_units len_of encode chars units shown) (λ k. encode (get_or chars k 0)) (visual_order shown) (λ i d fits. one (get_or (visual_order shown) i d) (all_below i d fits))
        ∙ sym (flat_map-map encode (λ k. get_or chars k 0) (visual_order shown))

    abbrev classes : List BidiClass
    classes = per_char L len_of chars (slice_range (line_classes l) 0 (text_len len_of chars))

    abbrev own : List LineChar
    own = line_chars_by len_of 0 chars classes shown

    same_length : length shown ≡ length chars
    same_length = length-per_char 0 len_of chars (caller_line_levels l)

    own-is : line_chars (own_analysed len_of chars l) l.paragraph.now.level (whole_line len_of chars) ≡ own
    unfolding line_chars
    own-is =
        ap₂ (λ (cs : List ℕ) (ls : List ℕ). line_chars_by len_of 0 cs (per_char L len_of cs (slice_range (line_classes l) 0 (text_len len_of chars))) ls)
        (whole-subrange len_of some chars l valid equal long) (sym (caller-chars len_of some chars l valid equal long))

    levels-own : map (λ c. c.level) own ≡ shown
    levels-own = levels-is len_of chars classes shown same_length

    order-own : shown_order plain 0 own (clusters_of plain no_width own) ≡ order_of_line len_of chars l
    unfolding order_of_line
    order-own = shown_order-plain own ∙ ap visual_order levels-own

    abbrev first : LineChar
    first = line_char_at len_of 0 chars classes shown 0

    abbrev text_in : List LineChar → List ℕ
    text_in cs =
        flat_map (λ (text : List ℕ). text)
        (at_indexes [] (map (cluster_text plain (mirrored_if false) cs) (clusters_of plain no_width cs)) (cluster_order (clusters_of plain no_width cs)))

    abbrev order_in : List LineChar → List ℕ
    order_in cs = shown_order plain 0 cs (clusters_of plain no_width cs)

    text-own : text_in own ≡ map (λ k. get_or chars k 0) (visual_order shown)
    text-own =
        text-plain own first
        ∙ ap (λ ls. map (λ k. (get_or own k first).char) (visual_order ls)) levels-own
        ∙ map-same_on (λ k. (get_or own k first).char) (λ k. get_or chars k 0) (visual_order shown)
        (λ i d fits. ap (λ (c : LineChar). c.char) (line_char len_of chars classes shown same_length (get_or (visual_order shown) i d) (all_below i d fits)))

    -- the parts of the line by the flags 0
    pub plain-parts : (units : List X) → units ≡ flat_map encode chars
        → found_parts (reordered len_of encode chars units l) (order_of_line len_of chars l) (length chars) ≡ parts_by len_of encode chars l 0
    unfolding line_text
    plain-parts units of_units =
        let cs : List LineChar = line_chars (own_analysed len_of chars l) l.paragraph.now.level (whole_line len_of chars) in
        ap (λ (us : List X). found_parts us (order_of_line len_of chars l) (length chars))
        (reordered-encoded units of_units ∙ ap (flat_map encode) (sym text-own ∙ ap text_in (sym own-is)))
        ∙ ap (λ (ks : List ℕ). found_parts (flat_map encode (text_in cs)) ks (length chars)) (sym order-own ∙ ap order_in (sym own-is))
        ∙ ap (λ (n : ℕ). found_parts (flat_map encode (text_in cs)) (order_in cs) n)
        (sym (length-line_chars len_of chars classes shown same_length) ∙ ap length (sym own-is))
