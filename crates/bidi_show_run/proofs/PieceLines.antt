-- What `show` and `lines` print of the paragraphs of a text, read in the text, is what they print of each by itself.
use Rattle.bidi_base.proofs.Common.{◌≡◌, ℕ, ◌+◌, ◌-◌, ◌≤◌, List, [], ◌∷◌, ◌++◌, Option, length, map, flat_map, drop, encode_utf8, refl, sym, ap, ◌∙◌, append_assoc, length-append, arith, add-zero}
use Rattle.bidi_base.proofs.Common.{take-append-add, take-append_seam, drop-append_seam, drop-append-add, slice_range, len_utf8, chars, IsUtf8, take_all, take-append-le, take-append-drop}
use Rattle.bidi_base.proofs.Common.{drop-append-le, length-map, sum_by-append, encodes-chars, encodes-append, line_text, paragraph_level, stored_classes, lines_of, paragraphs_of, each_separator}
use Rattle.bidi_base.proofs.Common.{ranges_from, Source, stored_levels, text_classes, text_levels, paragraph_levels, unit_index, text_len, char_index, subrange, per_unit, per_char, IsLine, length-drop}
use Rattle.bidi_base.proofs.Common.{IsUtf8-between}
use Rattle.std.proofs.Math.Nat.{zero-add}
use Rattle.std.specs.Prelude.{encode_utf8_all}
use Rattle.bidi_base.specs.declared.char_data.BidiClass.{BidiClass}
use Rattle.bidi_base.specs.declared.char_data.BidiClass.TheVariants.{L}
use Rattle.bidi_laws.proofs.LayoutLemmas.{lines_of-joined}
use Rattle.bidi_laws.proofs.LevelLaws.{length-stored_levels}
use Rattle.bidi_base.proofs.PerUnit.{length-per_unit, per_unit-append, per_char-per_unit}
use Rattle.bidi_laws.proofs.StoredSteps.{length-stored_classes}
use Rattle.bidi_base.proofs.TextLemmas.{subrange-middle}
use Rattle.bidi_laws.proofs.ParagraphsLemmas.{paragraphs-joined, joined}
use Rattle.bidi_laws.proofs.PieceUnits.{length-values}
use Rattle.bidi_base.proofs.UnitIndexLemmas.{subrange-front, unit_index-le, unit_index-mono, unit_index-end, char_index-unit_index, IsLine-unit_indexes}
use Rattle.bidi_text.proofs.StrLemmas.{text_len-encodes, has_units, subrange-from_str, IsCharBoundary-from_is_boundary}
use Rattle.bidi_show_run.specs.Printed.{levels_in, own_end, line_in, text_in, layout_in, layout_text, printed_at, printed_in}
use Rattle.bidi_show_run.specs.Texts.{without_separator, shown_line, one_column, one_at_least, layout_lines, paragraph_text, lines_from, shown_text}
use Rattle.bidi_show_run.specs.declared.command.View.{View}
use Rattle.bidi_show_run.specs.declared.command.View.TheVariants.{Whole, Lines}
use Rattle.bidi_show_run.proofs.ShownLemmas.{without_separator-IsFront}
use Rattle.unicode_bidi.specs.ParagraphInfo.{ranges_of, levels_of}
use Rattle.bidi_paragraphs.specs.declared.paragraph_info.ParagraphInfo.{ParagraphInfo}

-- ---- a part of a list

part-between : {X : Type 0} (xs ys zs : List X) (start i j : ℕ) → length xs ≡ start → i ≤ j → j ≤ length ys → slice_range (xs ++ (ys ++ zs)) (start + i) (start + j) ≡ slice_range ys i j
part-between xs ys zs start i j long order short = grind (arith, drop-append-add xs (ys ++ zs) i, drop-append-le i ys zs, take-append-le (j - i) (drop i ys) zs, length-drop i ys)

-- ---- a line of a piece in the middle of a text

module _ (front piece back : List ℕ) (n : ℕ) (short : n ≤ length piece) where
  unit_index-middle : unit_index len_utf8 (front ++ (piece ++ back)) (length front + n) ≡ text_len len_utf8 front + unit_index len_utf8 piece n
  unit_index-middle = grind (arith, take-append-add, take-append-le, sum_by-append)

  char_index-middle : char_index len_utf8 (front ++ (piece ++ back)) (text_len len_utf8 front + unit_index len_utf8 piece n) ≡ length front + n
  char_index-middle = grind (arith, unit_index-middle, char_index-unit_index len_utf8 (front ++ (piece ++ back)) has_units (length front + n), length-append)

module _ (front piece back : List ℕ) (i j : ℕ) (order : i ≤ j) (short : j ≤ length piece) (level : ℕ) (cf cp cb : List BidiClass) (lf lp lb : List ℕ) (uf up ub : List ℕ)
    (cf_long : length cf ≡ length front) (cp_long : length cp ≡ length piece) (lf_long : length lf ≡ length front) (lp_long : length lp ≡ length piece)
    (uf_long : length uf ≡ text_len len_utf8 front) (up_long : length up ≡ text_len len_utf8 piece) where
  -- a line of the piece is the same in the text as in the piece alone
  line_text-middle : line_text len_utf8 encode_utf8 (front ++ (piece ++ back)) (uf ++ (up ++ ub)) level (cf ++ (cp ++ cb)) (lf ++ (lp ++ lb)) (text_len len_utf8 front + unit_index len_utf8 piece i) (text_len len_utf8 front + unit_index len_utf8 piece j)
      ≡ line_text len_utf8 encode_utf8 piece up level cp lp (unit_index len_utf8 piece i) (unit_index len_utf8 piece j)
  unfolding line_text
  line_text-middle =
      simp (
        char_index-middle front piece back i (omega arith),
        char_index-middle front piece back j short,
        char_index-unit_index len_utf8 piece has_units i (omega arith),
        char_index-unit_index len_utf8 piece has_units j short,
        part-between front piece back (length front) i j refl order short,
        part-between cf cp cb (length front) i j cf_long order (omega arith),
        part-between lf lp lb (length front) i j lf_long order (omega arith),
        part-between uf up ub (text_len len_utf8 front) (unit_index len_utf8 piece i) (unit_index len_utf8 piece j) uf_long (unit_index-mono len_utf8 piece i j order) (omega (arith, unit_index-le len_utf8 piece j)),
      )

-- ---- values of a piece in the middle of a text

module _ {X : Type 0} (front piece back : List ℕ) (vf vp vb : List X) (vf_long : length vf ≡ length front) (vp_long : length vp ≡ length piece) where
  units-middle : slice_range (per_unit len_utf8 (front ++ (piece ++ back)) (vf ++ (vp ++ vb))) (text_len len_utf8 front) (text_len len_utf8 front + text_len len_utf8 piece) ≡ per_unit len_utf8 piece vp
  units-middle = grind (arith, length-per_unit, take_all, per_unit-append, drop-append_seam, take-append-le)

-- ---- a paragraph in the middle of a text

abbrev own_classes : Source → List ℕ → List BidiClass
own_classes source piece = stored_classes (map source.class_of piece)

length-own_classes : (source : Source) (piece : List ℕ) → length (own_classes source piece) ≡ length piece
length-own_classes source piece = grind (arith, length-stored_classes, length-map)

module _ (source : Source) (base_level : Option ℕ) (text : List ℕ) (utf8 : IsUtf8 text) (front piece back : List ℕ) (whole : chars text ≡ front ++ (piece ++ back))
    (cf cb : List BidiClass) (lf lb : List ℕ) (cf_long : length cf ≡ length front) (lf_long : length lf ≡ length front) (cb_long : length cb ≡ length back) (lb_long : length lb ≡ length back) where
  abbrev start : ℕ
  start = text_len len_utf8 front

  abbrev classes : List BidiClass
  classes = cf ++ (own_classes source piece ++ cb)

  abbrev levels : List ℕ
  levels = lf ++ (stored_levels source base_level piece ++ lb)

  line : IsLine len_utf8 (chars text) start (start + text_len len_utf8 piece)
  line = grind (arith, IsLine-unit_indexes len_utf8 (chars text) (length front) (length front + length piece), unit_index-middle front piece back (length piece), unit_index-end len_utf8 piece (length piece), take-append_seam front (piece ++ back))

  is_piece : subrange len_utf8 (chars text) start (start + text_len len_utf8 piece) ≡ piece
  is_piece = grind (arith, subrange-middle)

  part_chars : chars (slice_range text start (start + text_len len_utf8 piece)) ≡ piece
  part_chars =
      let part : IsUtf8 (slice_range text start (start + text_len len_utf8 piece)) =
      IsUtf8-between text start (start + text_len len_utf8 piece) utf8 (omega arith) (IsCharBoundary-from_is_boundary text start utf8 line.begins) (IsCharBoundary-from_is_boundary text (start + text_len len_utf8 piece) utf8 line.ends) in
      sym (subrange-from_str text start (start + text_len len_utf8 piece) utf8 line part) ∙ is_piece

  -- the levels of its characters
  levels_in-piece : levels_in text (per_unit len_utf8 (chars text) levels) start (start + text_len len_utf8 piece) ≡ stored_levels source base_level piece
  levels_in-piece = grind (arith, part_chars, units-middle front piece back lf (stored_levels source base_level piece) lb, per_char-per_unit len_utf8 has_units 0 piece (stored_levels source base_level piece), length-stored_levels)

  bytes : text ≡ encode_utf8_all front ++ (encode_utf8_all piece ++ encode_utf8_all back)
  bytes = sym (encodes-chars text utf8) ∙ simp (whole, encodes-append)

  classes_back : per_char L len_utf8 (chars text) (per_unit len_utf8 (chars text) classes) ≡ classes
  classes_back = grind (arith, per_char-per_unit len_utf8 has_units L (chars text) classes, length-append, length-own_classes)

  levels_back : per_char 0 len_utf8 (chars text) (per_unit len_utf8 (chars text) levels) ≡ levels
  levels_back = grind (arith, per_char-per_unit len_utf8 has_units 0 (chars text) levels, length-append, length-stored_levels)

  -- where it ends without its separator
  own_end-piece : own_end source (chars text) start (start + text_len len_utf8 piece) ≡ start + text_len len_utf8 (without_separator source piece)
  own_end-piece = simp is_piece

  module _ (level : ℕ) where
    -- a line of it, read in the text, and read in the piece
    abbrev in_text : ℕ → ℕ → List ℕ
    in_text a b = line_in text level (per_unit len_utf8 (chars text) classes) (per_unit len_utf8 (chars text) levels) a b

    abbrev in_piece : ℕ → ℕ → List ℕ
    in_piece a b = line_text len_utf8 encode_utf8 piece (encode_utf8_all piece) level (own_classes source piece) (stored_levels source base_level piece) a b

    line_in-places : (i j : ℕ) → i ≤ j → j ≤ length piece → in_text (start + unit_index len_utf8 piece i) (start + unit_index len_utf8 piece j) ≡ in_piece (unit_index len_utf8 piece i) (unit_index len_utf8 piece j)
    line_in-places i j order short =
        grind (arith, classes_back, levels_back, bytes, line_text-middle, length-own_classes, length-stored_levels, text_len-encodes)

    -- the same for the characters that follow `before` in the piece
    line_in-piece : (before some after : List ℕ) → piece ≡ before ++ (some ++ after)
        → in_text (start + text_len len_utf8 before) (start + (text_len len_utf8 before + text_len len_utf8 some)) ≡ in_piece (text_len len_utf8 before) (text_len len_utf8 before + text_len len_utf8 some)
    line_in-piece before some after e =
        grind (arith, line_in-places (length before) (length before + length some), take-append_seam before (some ++ after), unit_index-middle before some after (length some), unit_index-end len_utf8 some (length some), length-append)

    -- the characters without the separator, and those that follow
    own_front : (rest : List ℕ) × (piece ≡ without_separator source piece ++ rest)
    own_front =
        let f = without_separator-IsFront source piece in
        (drop f.many piece, simp (f.front, take-append-drop f.many piece))

    -- its text from left to right
    text_in-piece : text_in source text level (per_unit len_utf8 (chars text) classes) (per_unit len_utf8 (chars text) levels) start (start + text_len len_utf8 piece) ≡ in_piece 0 (text_len len_utf8 (without_separator source piece))
    text_in-piece =
        simp own_end-piece (rw (add-zero, zero-add) at (line_in-piece [] (without_separator source piece) own_front.0 own_front.1))

    -- its lines from left to right
    layout_from : (before : List ℕ) (lines : List (List ℕ)) (after : List ℕ) → piece ≡ before ++ (joined lines ++ after)
        → flat_map (λ r. shown_line (in_text r.0 r.1)) (ranges_from len_utf8 (start + text_len len_utf8 before) lines) ≡ flat_map (λ r. shown_line (in_piece r.0 r.1)) (ranges_from len_utf8 (text_len len_utf8 before) lines)
    layout_from before [] after e = refl
    layout_from before (l ∷ lines) after e =
        grind (arith, append_assoc, sum_by-append, line_in-piece before l (joined lines ++ after), layout_from (before ++ l) lines after)

    layout_lines-from : (lines : List (List ℕ)) (after : List ℕ) → piece ≡ joined lines ++ after
        → flat_map (λ r. shown_line (in_text r.0 r.1)) (one_at_least start (ranges_from len_utf8 start lines)) ≡ flat_map (λ r. shown_line (in_piece r.0 r.1)) (one_at_least 0 (ranges_from len_utf8 0 lines))
    layout_lines-from [] after e = ap (λ l. shown_line l ++ []) (rw add-zero at (line_in-piece [] [] after e))
    layout_lines-from (l ∷ lines) after e = rw add-zero at (layout_from [] (l ∷ lines) after e)

    layout-piece : (limit : ℕ)
        → layout_text text level (per_unit len_utf8 (chars text) classes) (per_unit len_utf8 (chars text) levels) (layout_in source limit (chars text) start (start + text_len len_utf8 piece))
        ≡ layout_lines source limit piece level (own_classes source piece) (stored_levels source base_level piece)
    layout-piece limit =
        let own : List ℕ = without_separator source piece in
        let f = without_separator-IsFront source piece in
        let in_whole : subrange len_utf8 (chars text) start (start + text_len len_utf8 own) ≡ own =
        ap (λ cs. subrange len_utf8 cs start (start + text_len len_utf8 own)) (whole ∙ ap (λ cs. front ++ cs) (ap (λ cs. cs ++ back) own_front.1 ∙ append_assoc own own_front.0 back)) ∙ subrange-middle len_utf8 has_units front own (own_front.0 ++ back) in
        let alone : subrange len_utf8 piece 0 (text_len len_utf8 own) ≡ own =
        ap (λ cs. subrange len_utf8 piece 0 (text_len len_utf8 cs)) f.front ∙ subrange-front len_utf8 piece has_units f.many f.short ∙ sym f.front in
        simp (own_end-piece, in_whole, alone) (layout_lines-from (lines_of one_column limit own) own_front.0 (own_front.1 ∙ ap (λ cs. cs ++ own_front.0) (sym (lines_of-joined one_column limit own))))

    -- what is printed of it
    printed-piece : (view : View) → printed_at view source text start (start + text_len len_utf8 piece) level (per_unit len_utf8 (chars text) classes) (per_unit len_utf8 (chars text) levels)
        ≡ paragraph_text view source start piece level (own_classes source piece) (stored_levels source base_level piece)
    printed-piece Whole = simp (levels_in-piece, text_in-piece)
    printed-piece (Lines limit) = layout-piece limit

-- ---- all paragraphs

module _ (view : View) (source : Source) (base_level : Option ℕ) (text : List ℕ) (utf8 : IsUtf8 text) (classes : List BidiClass) (levels : List ℕ) where
  -- what is printed of the paragraphs from a character on, if some characters are before it
  printed_in-from : (front : List ℕ) (cf : List BidiClass) (lf : List ℕ) (pieces : List (List ℕ)) (ps : List ParagraphInfo)
      → chars text ≡ front ++ joined pieces → length cf ≡ length front → length lf ≡ length front
      → classes ≡ per_unit len_utf8 (chars text) (cf ++ flat_map (own_classes source) pieces) → levels ≡ per_unit len_utf8 (chars text) (lf ++ flat_map (stored_levels source base_level) pieces)
      → ranges_of ps ≡ ranges_from len_utf8 (text_len len_utf8 front) pieces → levels_of ps ≡ map (λ piece. paragraph_level base_level (map source.class_of piece)) pieces
      → flat_map (printed_in view source text classes levels) ps ≡ lines_from view source base_level (text_len len_utf8 front) pieces
  printed_in-from front cf lf [] [] whole cf_long lf_long ks ls ranges own = refl
  printed_in-from front cf lf (piece ∷ pieces) (p ∷ ps) whole cf_long lf_long ks ls ranges own =
      let cb : List BidiClass = flat_map (own_classes source) pieces in
      let lb : List ℕ = flat_map (stored_levels source base_level) pieces in
      let one = printed-piece source base_level text utf8 front piece (joined pieces) whole cf cb lf lb cf_long lf_long (length-values (own_classes source) (length-own_classes source) pieces)
      (length-values (stored_levels source base_level) (length-stored_levels source base_level) pieces) (paragraph_level base_level (map source.class_of piece)) view in
      let rest = printed_in-from (front ++ piece) (cf ++ own_classes source piece) (lf ++ stored_levels source base_level piece) pieces ps in
      grind (arith, one, rest, sum_by-append, append_assoc, length-append, length-own_classes, length-stored_levels)
  printed_in-from front cf lf pieces ps whole cf_long lf_long ks ls ranges own = absurd (cc ranges)

  -- and the whole text
  pub printed_in-shown : (ps : List ParagraphInfo) → classes ≡ per_unit len_utf8 (chars text) (text_classes source (paragraphs_of (each_separator source) (chars text)))
      → levels ≡ per_unit len_utf8 (chars text) (text_levels source base_level (paragraphs_of (each_separator source) (chars text)))
      → ranges_of ps ≡ ranges_from len_utf8 0 (paragraphs_of (each_separator source) (chars text)) → levels_of ps ≡ paragraph_levels source base_level (paragraphs_of (each_separator source) (chars text))
      → flat_map (printed_in view source text classes levels) ps ≡ shown_text view source base_level text
  unfolding text_classes text_levels paragraph_levels shown_text
  printed_in-shown ps ks ls ranges own =
      printed_in-from [] [] [] (paragraphs_of (each_separator source) (chars text)) ps (sym (paragraphs-joined source (chars text))) refl refl ks ls ranges own
