-- Lines of printable ASCII are shown unchanged, if lines are not cut and go from left to right.
use Rattle.bidi_base.proofs.Common.{◌≡◌, ◌∙◌, ℕ, zero, suc, ◌+◌, ◌-◌, ◌<◌, ◌≤◌, ◌++◌, ◌==◌, ◌&&◌, Bool, true, false, not, List, [], ◌∷◌, Some, length, length-drop, get_or-drop, map, take, drop}
use Rattle.bidi_base.proofs.Common.{get_or, replicate, flat_map, refl, sym, ap, subst, arith, nat_tests, and_parts, or_parts, cases_Bool, inl, inr, length-map, length-replicate, append_assoc}
use Rattle.bidi_base.proofs.Common.{append-nil, not-true, take_all, take_more, take-append-drop, drop_more, drop-drop, codes, list_all, list_any, slice_range, range_with_len, encode_utf8, chars}
use Rattle.bidi_base.proofs.Common.{len_utf8, IsUtf8, IsUtf8-past_char, is_paragraph_separator, has_rtl, is_odd, is_reset, is_removed, line_levels, line_levels_after, stored_classes}
use Rattle.bidi_base.proofs.Common.{stored_levels, paragraph_level, level_by, text_len, char_index, may_turn, is_strong, IsCharBoundary, take-add, take_while-cons, encode_ascii, chars_past_char}
use Rattle.bidi_base.proofs.Common.{IsUtf8-drop, AnalysedText, Range, cases_lt, get_or_past, get_or-map-range_with_len, length-map-range_with_len, list_any_none, per_char, per_unit, subrange, if◌then◌else◌}
use Rattle.ucd_bidi.proofs.BidiClassLemmas.{bidi_class_stepped}
use Rattle.ucd_table.specs.Steps.{step_value}
use Rattle.ucd_table.proofs.Computing.{tables}
use Rattle.bidi_base.specs.declared.char_data.BidiClass.{BidiClass}
use Rattle.bidi_base.specs.declared.char_data.BidiClass.TheVariants.{AL, L, R}
use Rattle.bidi_base.specs.AnalysedText.{line_levels_per_char}
use Rattle.bidi_base.proofs.PerUnit.{per_char-per_unit}
use Rattle.bidi_base.proofs.TextLemmas.{char_index-append}
use Rattle.bidi_laws.proofs.IsolateWalk.{deciding_from, deciding_class-from, depth_by, is_zero, kind_of}
use Rattle.bidi_laws.proofs.KeepsToLemmas.{levels_in-pure_ltr}
use Rattle.bidi_laws.proofs.StoredSteps.{length-stored_classes}
use Rattle.bidi_lines.proofs.LineLevels.{length-line_levels_after}
use Rattle.bidi_display.specs.LineChars.{line_char_at, line_chars, line_chars_by}
use Rattle.bidi_display.specs.LineClusters.{is_direction_control, is_dropped}
use Rattle.bidi_display.specs.declared.line_char.LineChar.{LineChar}
use Rattle.bidi_display.specs.declared.options.Dropped.TheVariants.{Controls, Nothing}
use Rattle.bidi_display.proofs.EvenLineLemmas.{line_chars-chars}
use Rattle.bidi_lines.proofs.Ordered.{none_odd}
use Rattle.bidi_terminal.specs.Bases.{level_of_base}
use Rattle.bidi_text.proofs.StrLemmas.{has_units}
use Rattle.bidi_unicode.specs.Unicode.{class_named, unicode_source}
use Rattle.bidi_shown.specs.PrintableLines.{is_printable_ascii, CopiesPrintable}
use Rattle.bidi_base.specs.Paragraphs.{own_chars}
use Rattle.bidi_shown.specs.Displayed.{after_first, analysed_paragraph, displayed_lines, displayed_paragraph, displayed_range, shown_paragraph, shown_text, whole}
use Rattle.bidi_shown.specs.Plain.{plain_paragraph, plain_range, shown_levels}
use Rattle.bidi_shown.specs.Views.{options_in}
use Rattle.bidi_shown.specs.declared.view.View.{View}
use Rattle.bidi_shown.proofs.EvenDisplayed.{spaced_text-even}
use Rattle.bidi_shown.proofs.EvenLemmas.{tabbed_line-even}
use Rattle.bidi_shown.proofs.FirstLemmas.{own-ended, shown_text-first}

-- ---- the classes of printable ASCII

-- neither separates paragraphs nor can change the direction
abbrev is_ordinary : BidiClass → Bool
is_ordinary class = not (is_paragraph_separator class) && not (may_turn class)

low_ordinary : list_all (λ c. is_ordinary (class_named (step_value bidi_class_stepped.default bidi_class_stepped.steps c))) (range_with_len 32 95) ≡ true
unfolding tables bidi_class_stepped
low_ordinary = refl

feed_separates : is_paragraph_separator (class_named (step_value bidi_class_stepped.default bidi_class_stepped.steps 0x0A)) ≡ true
unfolding tables bidi_class_stepped
feed_separates = refl

all_from : (test : ℕ → Bool) (start n c : ℕ) → list_all test (range_with_len start n) ≡ true → start ≤ c → c < start + n → test c ≡ true
all_from test start zero c all low high = absurd (omega arith)
all_from test start (suc n) c all low high =
    let parts = and_parts (test start) (list_all test (range_with_len (start + 1) n)) all in
    elim (cases_Bool (c == start)) [
      | inl first ↦ let same : c ≡ start = grind (arith, nat_tests) in simp same parts.0
      | inr later ↦ all_from test (start + 1) n c parts.1 (grind (arith, nat_tests)) (omega arith)
    ]

printable-ordinary : (c : ℕ) → is_printable_ascii c ≡ true → is_ordinary (unicode_source.class_of c) ≡ true
unfolding unicode_source
printable-ordinary c printable =
    rw (bidi_class_stepped.gives c)
    (all_from (λ x. is_ordinary (class_named (step_value bidi_class_stepped.default bidi_class_stepped.steps x))) 32 95 c low_ordinary (grind (arith, nat_tests)) (grind (arith, nat_tests)))

printable-own : (c : ℕ) → is_printable_ascii c ≡ true → is_paragraph_separator (unicode_source.class_of c) ≡ false
printable-own c printable = not-true _ (and_parts (not (is_paragraph_separator (unicode_source.class_of c))) (not (may_turn (unicode_source.class_of c))) (printable-ordinary c printable)).0

printable-still : (c : ℕ) → is_printable_ascii c ≡ true → may_turn (unicode_source.class_of c) ≡ false
printable-still c printable = not-true _ (and_parts (not (is_paragraph_separator (unicode_source.class_of c))) (not (may_turn (unicode_source.class_of c))) (printable-ordinary c printable)).1

pub feed-separates : is_paragraph_separator (unicode_source.class_of 0x0A) ≡ true
unfolding unicode_source
feed-separates = rw (bidi_class_stepped.gives 0x0A) feed_separates

-- ---- its bytes are its characters

printable-low : (c : ℕ) → is_printable_ascii c ≡ true → c < 128
printable-low c printable = grind (arith, nat_tests)

-- a character of ASCII before UTF-8
ascii-chars : (c : ℕ) (rest : List ℕ) → c < 128 → IsUtf8 (c ∷ rest) → (chars (c ∷ rest) ≡ c ∷ chars rest) × IsUtf8 rest
ascii-chars c rest low utf8 =
    let e : c ∷ rest ≡ encode_utf8 c ++ rest = ap (λ l. l ++ rest) (sym (encode_ascii c low)) in
    (chars_past_char (c ∷ rest) rest c utf8 e, IsUtf8-past_char (c ∷ rest) rest c utf8 e)

printable-chars : (line rest : List ℕ) → list_all is_printable_ascii line ≡ true → IsUtf8 (line ++ rest) → (chars (line ++ rest) ≡ line ++ chars rest) × IsUtf8 rest
printable-chars [] rest printable utf8 = (refl, utf8)
printable-chars (c ∷ line) rest printable utf8 =
    let parts = and_parts (is_printable_ascii c) (list_all is_printable_ascii line) printable in
    let here = ascii-chars c (line ++ rest) (printable-low c parts.0) utf8 in
    let later = printable-chars line rest parts.1 here.1 in
    (here.0 ∙ ap (λ l. c ∷ l) later.0, later.1)

printable-encode : (line : List ℕ) → list_all is_printable_ascii line ≡ true → flat_map encode_utf8 line ≡ line
printable-encode [] printable = refl
printable-encode (c ∷ line) printable =
    let parts = and_parts (is_printable_ascii c) (list_all is_printable_ascii line) printable in
    simp (encode_ascii c (printable-low c parts.0), printable-encode line parts.1)

printable-tabs : (line : List ℕ) → list_all is_printable_ascii line ≡ true → list_any (λ c. c == 0x09) line ≡ false
printable-tabs [] printable = refl
printable-tabs (c ∷ line) printable =
    let parts = and_parts (is_printable_ascii c) (list_all is_printable_ascii line) printable in
    let other : (c == 0x09) ≡ false = grind (arith, nat_tests, parts.0) in
    simp (other, printable-tabs line parts.1)

-- ---- its paragraph

own-printable : (line cs : List ℕ) → list_all is_printable_ascii line ≡ true → own_chars unicode_source (line ++ 0x0A ∷ cs) ≡ line
own-printable [] cs printable = own-ended unicode_source 0x0A cs feed-separates
own-printable (c ∷ line) cs printable =
    let parts = and_parts (is_printable_ascii c) (list_all is_printable_ascii line) printable in
    take_while-cons (λ x. not (is_paragraph_separator (unicode_source.class_of x))) c (line ++ 0x0A ∷ cs)
    ∙ simp (printable-own c parts.0) (ap (λ l. c ∷ l) (own-printable line cs parts.1))

after-printable : (line cs : List ℕ) → list_all is_printable_ascii line ≡ true → after_first unicode_source (line ++ 0x0A ∷ cs) ≡ cs
after-printable [] cs printable = simp feed-separates
after-printable (c ∷ line) cs printable =
    let parts = and_parts (is_printable_ascii c) (list_all is_printable_ascii line) printable in
    simp (printable-own c parts.0, after-printable line cs parts.1)

-- ---- its levels

turns-none : (line : List ℕ) → list_all is_printable_ascii line ≡ true → list_any may_turn (map unicode_source.class_of line) ≡ false
turns-none [] printable = refl
turns-none (c ∷ line) printable =
    let parts = and_parts (is_printable_ascii c) (list_all is_printable_ascii line) printable in
    simp (printable-still c parts.0, turns-none line parts.1)

level_by-still : (c : BidiClass) → may_turn c ≡ false → level_by (Some c) ≡ 0
level_by-still R still = cc
level_by-still AL still = cc
level_by-still _ still = refl

deciding-still : (d : ℕ) (classes : List BidiClass) → list_any may_turn classes ≡ false → level_by (deciding_from d classes) ≡ 0
deciding-still d [] still = refl
deciding-still d (c ∷ classes) still =
    let parts = or_parts (may_turn c) (list_any may_turn classes) still in
    let later = deciding-still (depth_by (kind_of c) d) classes parts.1 in
    elim (cases_Bool (is_strong c && is_zero d)) [
      | inl here ↦ simp here (level_by-still c parts.0)
      | inr goes_on ↦ simp goes_on later
    ]

slice_whole : {X : Type 0} (xs : List X) (n : ℕ) → n ≡ length xs → slice_range xs 0 n ≡ xs
slice_whole xs n all = take_all (n - 0) xs (omega arith)

-- L1 makes no level odd
even-line : (classes : List BidiClass) (before : ℕ) (levels : List ℕ) → is_odd before ≡ false → list_any is_odd levels ≡ false → list_any is_odd (line_levels_after 0 before classes levels) ≡ false
unfolding line_levels_after
even-line [] before levels even_before even = refl
even-line (c ∷ classes) before [] even_before even = refl
even-line (c ∷ classes) before (own ∷ levels) even_before even =
    let parts = or_parts (is_odd own) (list_any is_odd levels) even in
    elim (cases_Bool (is_reset (c ∷ classes))) [
      | inl reset ↦ simp reset (even-line classes 0 levels refl parts.1)
      | inr kept ↦ elim (cases_Bool (is_removed c)) [
        | inl gone ↦ simp (kept, gone, even_before) (even-line classes before levels even_before parts.1)
        | inr here ↦ simp (kept, here, parts.0) (even-line classes own levels parts.0 parts.1)
      ]
    ]

even-zeros : (n : ℕ) → list_any is_odd (replicate n 0) ≡ false
even-zeros zero = refl
even-zeros (suc n) = even-zeros n

-- ---- its characters as those of a line

-- printable ASCII is displayed
kept-here : (keeps : Bool) (c : LineChar) → is_direction_control c.char ≡ false → is_dropped (if keeps then Nothing else Controls) c ≡ false
kept-here true c other = refl
kept-here false c other = other

printable-kept : (view : View) (cs : List LineChar) → list_all is_printable_ascii (map (λ (c : LineChar). c.char) cs) ≡ true → list_any (is_dropped (options_in view).dropped) cs ≡ false
printable-kept view [] printable = refl
printable-kept view (c ∷ cs) printable =
    let parts = and_parts (is_printable_ascii c.char) (list_all is_printable_ascii (map (λ (c : LineChar). c.char) cs)) printable in
    let other : is_direction_control c.char ≡ false = grind (arith, nat_tests, parts.0) in
    rw (kept-here view.keeps_controls c other) (printable-kept view cs parts.1)

-- where no level is odd, no character of the line has an odd level
module _ (len_of : ℕ → ℕ) (start : ℕ) (cs : List ℕ) (line_classes : List BidiClass) (line_levels : List ℕ) (even : has_rtl line_levels ≡ false) where
  even_level : (k : ℕ) → is_odd (get_or line_levels k 0) ≡ false
  even_level k = elim (cases_lt k (length line_levels)) [
    | inl inside ↦ grind (arith, none_odd line_levels even k inside)
    | inr past ↦ simp (get_or_past line_levels k 0 past) refl
  ]

  even_at : (k : ℕ) (d : LineChar) → k < length (line_chars_by len_of start cs line_classes line_levels) → is_odd (get_or (line_chars_by len_of start cs line_classes line_levels) k d).level ≡ false
  even_at k d fits =
      let inside : k < length cs = omega (arith, fits, length-map-range_with_len (line_char_at len_of start cs line_classes line_levels) 0 (length cs)) in
      simp (get_or-map-range_with_len (line_char_at len_of start cs line_classes line_levels) 0 (length cs) k k d inside (omega arith)) (even_level k)

  even-chars : list_any (λ (c : LineChar). is_odd c.level) (line_chars_by len_of start cs line_classes line_levels) ≡ false
  even-chars = list_any_none (λ (c : LineChar). is_odd c.level) (line_chars_by len_of start cs line_classes line_levels) even_at

module _ (view : View) (copies : CopiesPrintable view) (line : List ℕ) (printable : list_all is_printable_ascii line ≡ true) where
  abbrev classes : List BidiClass
  classes = map unicode_source.class_of line

  printable-level : paragraph_level (level_of_base view.base) classes ≡ 0
  unfolding paragraph_level
  printable-level = simp (deciding_class-from classes, deciding-still 0 classes (turns-none line printable)) copies.left

  printable-stored : stored_levels unicode_source (level_of_base view.base) line ≡ replicate (length line) 0
  unfolding stored_levels
  printable-stored = simp (printable-level, levels_in-pure_ltr classes (map unicode_source.bracket_of line) (simp (turns-none line printable)), length-map line unicode_source.class_of)

  abbrev line_of : List ℕ
  line_of = shown_levels unicode_source (level_of_base view.base) line 0 (length line)

  same_levels : line_of ≡ line_levels_after 0 0 (stored_classes classes) (replicate (length line) 0)
  unfolding shown_levels line_levels
  same_levels = simp (
    printable-level,
    printable-stored,
    slice_whole (stored_classes classes) (length line) (sym (length-stored_classes classes ∙ length-map line unicode_source.class_of)),
    slice_whole {X = ℕ} (replicate (length line) 0) (length line) (sym (length-replicate (length line) 0)),
  )

  printable-even : has_rtl line_of ≡ false
  printable-even = simp same_levels (even-line (stored_classes classes) 0 (replicate (length line) 0) refl (even-zeros (length line)))

  printable-long : length line_of ≡ length line
  printable-long =
      let long : length (stored_classes classes) ≡ length line = length-stored_classes classes ∙ length-map line unicode_source.class_of in
      simp same_levels (length-line_levels_after 0 0 (stored_classes classes) (replicate (length line) 0) (length-replicate (length line) 0 ∙ sym long) ∙ long)

  printable-range : plain_range unicode_source view line (0, text_len len_utf8 line) ≡ line ++ codes "\n"
  printable-range =
      let first : char_index len_utf8 line 0 ≡ 0 = char_index-append len_utf8 has_units [] line in
      let last : char_index len_utf8 line (text_len len_utf8 line) ≡ length line = simp append-nil at (char_index-append len_utf8 has_units line []) in
      simp (first, last, slice_whole line (length line) refl)
      (ap (λ l. l ++ codes "\n") (tabbed_line-even line line_of printable-long printable-even (printable-tabs line printable) ∙ printable-encode line printable))

  printable-plain : plain_paragraph unicode_source view line ≡ line ++ codes "\n"
  unfolding plain_paragraph
  printable-plain = simp (copies.uncut, append-nil) printable-range

  -- ---- displayed

  abbrev analysis : AnalysedText
  analysis = analysed_paragraph unicode_source (level_of_base view.base) line

  abbrev all : Range ℕ
  all = whole view analysis 0

  first-index : char_index len_utf8 line 0 ≡ 0
  first-index = char_index-append len_utf8 has_units [] line

  last-index : char_index len_utf8 line (text_len len_utf8 line) ≡ length line
  last-index = simp append-nil at (char_index-append len_utf8 has_units line [])

  own-line : subrange len_utf8 line 0 (text_len len_utf8 line) ≡ line
  own-line = simp (first-index, last-index) (slice_whole line (length line) refl)

  own-classes : per_char L len_utf8 line analysis.classes ≡ stored_classes classes
  own-classes = per_char-per_unit len_utf8 has_units L line (stored_classes classes) (length-stored_classes classes ∙ length-map line unicode_source.class_of)

  own-levels : per_char 0 len_utf8 line analysis.levels ≡ replicate (length line) 0
  own-levels =
      ap (λ (ls : List ℕ). per_char 0 len_utf8 line (per_unit len_utf8 line ls)) printable-stored
      ∙ per_char-per_unit len_utf8 has_units 0 line (replicate (length line) 0) (length-replicate (length line) 0)

  own-levels_of_line : line_levels_per_char analysis 0 all ≡ line_levels_after 0 0 (stored_classes classes) (replicate (length line) 0)
  unfolding line_levels
  own-levels_of_line = simp (
    own-classes,
    own-levels,
    first-index,
    last-index,
    slice_whole (stored_classes classes) (length line) (sym (length-stored_classes classes ∙ length-map line unicode_source.class_of)),
    slice_whole {X = ℕ} (replicate (length line) 0) (length line) (sym (length-replicate (length line) 0)),
  )

  own-even : has_rtl (line_levels_per_char analysis 0 all) ≡ false
  own-even = simp own-levels_of_line (even-line (stored_classes classes) 0 (replicate (length line) 0) refl (even-zeros (length line)))

  own-chars_of_line : map (λ (c : LineChar). c.char) (line_chars analysis 0 all) ≡ line
  unfolding line_chars
  own-chars_of_line = line_chars-chars len_utf8 0 (subrange len_utf8 line 0 (text_len len_utf8 line)) _ _ ∙ own-line

  own-even_chars : list_any (λ (c : LineChar). is_odd c.level) (line_chars analysis 0 all) ≡ false
  unfolding line_chars
  own-even_chars = even-chars len_utf8 0 (subrange len_utf8 line 0 (text_len len_utf8 line)) _ (line_levels_per_char analysis 0 all) own-even

  own-displayed : list_any (is_dropped (options_in view).dropped) (line_chars analysis 0 all) ≡ false
  own-displayed = printable-kept view (line_chars analysis 0 all) (ap (list_all is_printable_ascii) own-chars_of_line ∙ printable)

  own-tabs : list_any (λ c. c == 0x09) (map (λ (c : LineChar). c.char) (line_chars analysis 0 all)) ≡ false
  own-tabs = ap (list_any (λ c. c == 0x09)) own-chars_of_line ∙ printable-tabs line printable

  printable-displayed : displayed_paragraph unicode_source view line ≡ line ++ codes "\n"
  unfolding displayed_paragraph displayed_lines displayed_range
  printable-displayed =
      simp (copies.uncut, printable-level)
      (ap (λ (cs : List ℕ). flat_map encode_utf8 cs ++ codes "\n") (spaced_text-even view (line_chars analysis 0 all) own-even_chars own-displayed own-tabs ∙ own-chars_of_line)
      ∙ ap (λ (l : List ℕ). l ++ codes "\n") (printable-encode line printable))

  printable-paragraph : shown_paragraph unicode_source view line ≡ line ++ codes "\n"
  unfolding shown_paragraph
  printable-paragraph = elim (cases_Bool view.plain) [
    | inl plain ↦ simp plain printable-plain
    | inr displayed ↦ simp displayed printable-displayed
  ]

  -- ---- the text that it begins

  pub shown-printable : (rest : List ℕ) → IsUtf8 (line ++ 0x0A ∷ rest)
      → shown_text unicode_source view (chars (line ++ 0x0A ∷ rest)) ≡ line ++ 0x0A ∷ shown_text unicode_source view (chars rest)
  shown-printable rest utf8 =
      let here = printable-chars line (0x0A ∷ rest) printable utf8 in
      let feed = ascii-chars 0x0A rest (omega arith) here.1 in
      let cs : List ℕ = chars rest in
      let whole : chars (line ++ 0x0A ∷ rest) ≡ line ++ 0x0A ∷ cs = here.0 ∙ ap (λ l. line ++ l) feed.0 in
      simp whole
      (shown_text-first unicode_source view (line ++ 0x0A ∷ cs) (some line cs)
      ∙ simp (own-printable line cs printable, after-printable line cs printable, printable-paragraph, append_assoc))
    where
      some : (xs cs : List ℕ) → 0 < length (xs ++ 0x0A ∷ cs)
      some [] cs = omega arith
      some (x ∷ xs) cs = omega arith

-- ---- a text read up to a byte

module _ (text : List ℕ) (end at : ℕ) (ordered : end ≤ at) (within : at < length text) where
  abbrev byte : ℕ
  byte = get_or text at 0

  printable-split : drop end text ≡ slice_range text end at ++ byte ∷ drop (at + 1) text
  printable-split =
      let up : end + (at - end) ≡ at = omega arith in
      sym (take-append-drop (at - end) (drop end text))
      ∙ ap (λ l. slice_range text end at ++ l) (drop-drop (at - end) end text ∙ ap (λ n. drop n text) up ∙ drop_more text at 0 within)

  printable-front : take (at + 1) text ≡ take end text ++ (slice_range text end at ++ byte ∷ [])
  printable-front =
      let up : at ≡ end + (at - end) = omega arith in
      let front : take at text ≡ take end text ++ slice_range text end at = ap (λ n. take n text) up ∙ take-add end (at - end) text in
      take_more text at 0 within ∙ simp (front, append_assoc)

  pub printable-longer : list_all is_printable_ascii (slice_range text end at) ≡ true → is_printable_ascii byte ≡ true → list_all is_printable_ascii (slice_range text end (at + 1)) ≡ true
  printable-longer printable more =
      let up : (at + 1) - end ≡ (at - end) + 1 = omega arith in
      let inside : at - end < length (drop end text) = omega (arith, length-drop end text) in
      let same : get_or (drop end text) (at - end) 0 ≡ byte = get_or-drop end text (at - end) 0 ∙ ap (λ n. get_or text n 0) (let e : end + (at - end) ≡ at = omega arith in e) in
      let longer : slice_range text end (at + 1) ≡ slice_range text end at ++ byte ∷ [] = simp up (take_more (drop end text) (at - end) 0 inside ∙ ap (λ x. slice_range text end at ++ x ∷ []) same) in
      simp longer (list_all-push is_printable_ascii (slice_range text end at) byte printable more)
    where
      list_all-push : (test : ℕ → Bool) (xs : List ℕ) (x : ℕ) → list_all test xs ≡ true → test x ≡ true → list_all test (xs ++ x ∷ []) ≡ true
      list_all-push test [] x all one = simp one
      list_all-push test (y ∷ xs) x all one =
          let parts = and_parts (test y) (list_all test xs) all in
          simp (parts.0, list_all-push test xs x parts.1 one)

  pub printable-line : (view : View) → CopiesPrintable view → IsUtf8 text → IsCharBoundary text end → byte ≡ 0x0A → list_all is_printable_ascii (slice_range text end at) ≡ true
      → shown_text unicode_source view (chars text) ≡ take end text ++ shown_text unicode_source view (chars (drop end text))
      → shown_text unicode_source view (chars text) ≡ take (at + 1) text ++ shown_text unicode_source view (chars (drop (at + 1) text))
  printable-line view copies utf8 boundary feed printable shown =
      let split : drop end text ≡ slice_range text end at ++ 0x0A ∷ drop (at + 1) text = printable-split ∙ ap (λ x. slice_range text end at ++ x ∷ drop (at + 1) text) feed in
      let valid : IsUtf8 (slice_range text end at ++ 0x0A ∷ drop (at + 1) text) = subst IsUtf8 split (IsUtf8-drop text end utf8 boundary) in
      let line : shown_text unicode_source view (chars (drop end text)) ≡ slice_range text end at ++ 0x0A ∷ shown_text unicode_source view (chars (drop (at + 1) text)) =
      ap (λ l. shown_text unicode_source view (chars l)) split ∙ shown-printable view copies (slice_range text end at) printable (drop (at + 1) text) valid in
      simp (printable-front, feed, append_assoc) (shown ∙ ap (λ l. take end text ++ l) line)
