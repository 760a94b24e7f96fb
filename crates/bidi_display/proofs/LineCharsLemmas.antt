-- The characters of a line, as a pass over the line reads them.
use Rattle.bidi_base.proofs.Common.{◌≡◌, ℕ, ◌+◌, ◌-◌, ◌<◌, ◌≤◌, List, [], ◌∷◌, ◌++◌, length, take, get_or, slice_range, refl, ap, ◌∙◌, arith, take_more, take_all, length-take-le, length-map, length-range_with_len}
use Rattle.bidi_base.proofs.Common.{get_or-drop, get_or-take, class_at, text_len, subrange, per_char, IsLine}
use Rattle.bidi_base.proofs.Common.{Range, AnalysedText, line_levels_per_char, levels_of_line}
use Rattle.bidi_base.specs.PerChar.{HaveClass, HaveLevel}
use Rattle.bidi_base.specs.declared.char_data.BidiClass.{BidiClass}
use Rattle.bidi_base.specs.declared.char_data.BidiClass.TheVariants.{L}
use Rattle.bidi_base.proofs.TextLemmas.{HasUnits, is_boundary-le}
use Rattle.bidi_base.proofs.PerUnit.{get_or-per_char}
use Rattle.bidi_base.proofs.UnitIndexLemmas.{CharTurn, text_len-subrange}
use Rattle.bidi_base.proofs.UnitsLemmas.{length-from_IsPerChar}
use Rattle.bidi_lines.proofs.StoredLine.{classes_IsPerChar, of_line, length-shown, per_char-shown}
use Rattle.std.proofs.lemmas.List.FromFn.{get_or-map-range_with_len}
use Rattle.bidi_display.specs.LineChars.{line_char_at, line_chars_by}
use Rattle.bidi_display.specs.declared.line_char.LineChar.{LineChar}

module _ (len_of : ℕ → ℕ) (start : ℕ) (chars : List ℕ) (classes : List BidiClass) (levels : List ℕ) where
  pub length-line_chars_by : length (line_chars_by len_of start chars classes levels) ≡ length chars
  length-line_chars_by = simp (length-map, length-range_with_len)

  pub get_or-line_chars_by : (k : ℕ) (d : LineChar) → k < length chars → get_or (line_chars_by len_of start chars classes levels) k d ≡ line_char_at len_of start chars classes levels k
  get_or-line_chars_by k d within = get_or-map-range_with_len (line_char_at len_of start chars classes levels) 0 (length chars) k k d within (omega arith)

  -- one more character is read
  pub line_chars-more : (n offset c level : ℕ) (class : BidiClass) (read : List LineChar) → CharTurn len_of chars n offset c → read ≡ take n (line_chars_by len_of start chars classes levels)
      → class ≡ class_at classes n → level ≡ get_or levels n 0
      → read ++ record { start = start + offset; end = (start + offset) + len_of c; char = c; class = class; level = level } ∷ [] ≡ take (n + 1) (line_chars_by len_of start chars classes levels)
  line_chars-more n offset c level class read turn so_far of_class of_level =
      let d : LineChar = record { start = 0; end = 0; char = 0; class = L; level = 0 } in
      let next : take (n + 1) (line_chars_by len_of start chars classes levels) ≡ take n (line_chars_by len_of start chars classes levels) ++ get_or (line_chars_by len_of start chars classes levels) n d ∷ [] =
      take_more (line_chars_by len_of start chars classes levels) n d (omega (arith, turn.within, length-line_chars_by)) in
      let here = get_or-line_chars_by n d turn.within in
      rw (next, here, so_far, of_class, of_level, turn.at_place, ← turn.is_char) refl

  pub length-read : (n : ℕ) (read : List LineChar) → n ≤ length chars → read ≡ take n (line_chars_by len_of start chars classes levels) → length read ≡ n
  length-read n read some so_far = ap length so_far ∙ length-take-le n (line_chars_by len_of start chars classes levels) (omega (arith, length-line_chars_by))

  -- all characters are read
  pub line_chars-end : (n : ℕ) (read : List LineChar) → n ≡ length chars → read ≡ take n (line_chars_by len_of start chars classes levels) → read ≡ line_chars_by len_of start chars classes levels
  line_chars-end n read all so_far = so_far ∙ take_all n (line_chars_by len_of start chars classes levels) (omega (arith, all, length-line_chars_by))

-- a line of a text, with a class for each code unit of the text
module _ (len_of : ℕ → ℕ) (some : HasUnits len_of) (text : List ℕ) (classes : List BidiClass) (start end : ℕ) (is_line : IsLine len_of text start end) (have : HaveClass len_of text classes) where
  pub within : end ≤ length classes
  within = omega (arith, is_boundary-le len_of text end is_line.ends, length-from_IsPerChar len_of text classes (classes_IsPerChar len_of some text classes have))

  -- what is read at the n-th character
  pub record IsCharOfLine (n offset c : ℕ) : Type 0 where
    pub turn : CharTurn len_of (subrange len_of text start end) n offset c
    pub fits : (start + offset) + len_of c ≤ length classes
    pub has_class : start + offset < length classes
    pub class : get_or classes (start + offset) L ≡ class_at (per_char L len_of (subrange len_of text start end) (slice_range classes start end)) n

  pub char_of_line : (n offset c : ℕ) → CharTurn len_of (subrange len_of text start end) n offset c → IsCharOfLine n offset c
  char_of_line n offset c turn =
      let chars : List ℕ = subrange len_of text start end in
      let long : text_len len_of chars ≡ end - start = text_len-subrange len_of some text start end is_line in
      let ends : (start + offset) + len_of c ≤ end = omega (arith, turn.fits, long, is_line.ordered) in
      let inside : offset < end - start = omega (arith, turn.fits, long, some c) in
      record {
        turn = turn;
        fits = omega (arith, ends, within);
        has_class = omega (arith, ends, within, some c);
        class = grind (arith, get_or-per_char L len_of chars (slice_range classes start end) n L turn.within, turn.at_place, get_or-take, get_or-drop, inside);
      }

-- the levels of a line after L1, from one class and one level for each code unit of the text
module _ (len_of : ℕ → ℕ) (some : HasUnits len_of) (text : List ℕ) (level : ℕ) (classes : List BidiClass) (levels : List ℕ) (line : Range ℕ)
    (is_line : IsLine len_of text line.start line.end) (of_classes : HaveClass len_of text classes) (of_levels : HaveLevel len_of text levels)
    (shown : List ℕ) (is : shown ≡ levels_of_line level classes levels line.start line.end) where
  abbrev analysed : AnalysedText
  analysed = record { len_of = len_of; chars = text; classes = classes; levels = levels }

  -- there is one for each code unit of the line
  pub length-levels : length shown ≡ text_len len_of (subrange len_of text line.start line.end)
  length-levels = length-shown analysed some level line is_line shown (of_line len_of some text level classes levels line of_classes of_levels is_line shown is)

  -- those of the first code units are those of the characters
  pub levels-per_char : per_char 0 len_of (subrange len_of text line.start line.end) shown ≡ line_levels_per_char analysed level line
  levels-per_char = per_char-shown analysed some level line is_line shown (of_line len_of some text level classes levels line of_classes of_levels is_line shown is)
