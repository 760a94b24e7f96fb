use Rattle.bidi_base.proofs.Common.{◌≡◌, ◌∙◌, append_assoc, sym, ap, arith, len_utf8, chars, text_len, subrange, levels_of_line, IsLine, slice_range, AnalysedText, AreLevelsOfLine, List, ℕ, Range, IsUtf8, IsUtf8-between}
use Rattle.bidi_base.proofs.PerUnit.{length-per_char}
use Rattle.bidi_lines.specs.LineLevels.{levels as kept_levels}
use Rattle.bidi_text.proofs.StrLemmas.{has_units, subrange-from_str}
use Rattle.bidi_lines.proofs.StoredLine.{same_len, within, length-shown, per_char-shown, of_line}
use Rattle.bidi_shown.specs.Paragraph.{analysed_in}
use Rattle.bidi_shown.proofs.BoundsLemmas.{IsLine-from}
use Rattle.bidi_shown.specs.Bounds.{IsRangeOf}
use Rattle.bidi_shown.proofs.plain.push_line.Goals as goal
use Rattle.bidi_shown.proofs.plain.push_line.Goals.{In_ok-show}

-- the bytes of a range are a text
IsUtf8-range : (bs : List ℕ) (r : Range ℕ) → IsUtf8 bs → IsRangeOf bs r → IsUtf8 (slice_range bs r.start r.end)
IsUtf8-range bs r utf8 range = IsUtf8-between bs r.start r.end utf8 range.ordered range.start range.end

pub slice_bounds-classes-end : goal.slice_bounds-classes-end
slice_bounds-classes-end c =
    let a : AnalysedText = analysed_in c.args.paragraph.now.analysis.now (chars c.args.paragraph.now.text.now) in
    let line = IsLine-from c.args.paragraph.now.text.now c.args.line.now c.requires.utf8 c.requires.range in
    grind (
      arith,
      same_len len_utf8 has_units (chars c.args.paragraph.now.text.now) c.args.paragraph.now.analysis.now.level a.classes a.levels c.args.line.now c.requires.per_char.classes c.requires.per_char.levels line,
      within len_utf8 has_units (chars c.args.paragraph.now.text.now) c.args.paragraph.now.analysis.now.level a.classes a.levels c.args.line.now c.requires.per_char.classes c.requires.per_char.levels line,
    )

pub slice_bounds-levels-end : goal.slice_bounds-levels-end
slice_bounds-levels-end c =
    let a : AnalysedText = analysed_in c.args.paragraph.now.analysis.now (chars c.args.paragraph.now.text.now) in
    let line = IsLine-from c.args.paragraph.now.text.now c.args.line.now c.requires.utf8 c.requires.range in
    grind (arith, within len_utf8 has_units (chars c.args.paragraph.now.text.now) c.args.paragraph.now.analysis.now.level a.classes a.levels c.args.line.now c.requires.per_char.classes c.requires.per_char.levels line)

-- the range is a line of the text
is_line : (c : In_ok-show) → IsLine len_utf8 (chars c.args.paragraph.now.text.now) c.args.line.now.start c.args.line.now.end
is_line c = IsLine-from c.args.paragraph.now.text.now c.args.line.now c.requires.utf8 c.requires.range

-- the levels of its units
shown : (c : In_ok-show)
    → AreLevelsOfLine (analysed_in c.args.paragraph.now.analysis.now (chars c.args.paragraph.now.text.now)) c.args.paragraph.now.analysis.now.level c.args.line.now (kept_levels c.show.new.self)
shown c =
    let a : AnalysedText = analysed_in c.args.paragraph.now.analysis.now (chars c.args.paragraph.now.text.now) in
    let is : kept_levels c.show.new.self ≡ levels_of_line c.args.paragraph.now.analysis.now.level a.classes a.levels c.args.line.now.start c.args.line.now.end = grind arith in
    of_line len_utf8 has_units (chars c.args.paragraph.now.text.now) c.args.paragraph.now.analysis.now.level a.classes a.levels c.args.line.now c.requires.per_char.classes c.requires.per_char.levels (is_line c) (kept_levels c.show.new.self) is

-- its characters
chars_of_line : (c : In_ok-show) → chars c.range-part.result.now ≡ subrange len_utf8 (chars c.args.paragraph.now.text.now) c.args.line.now.start c.args.line.now.end
chars_of_line c =
    let part : c.range-part.result.now ≡ slice_range c.args.paragraph.now.text.now c.args.line.now.start c.args.line.now.end = grind arith in
    ap chars part ∙ sym (subrange-from_str c.args.paragraph.now.text.now c.args.line.now.start c.args.line.now.end c.requires.utf8 (is_line c) (IsUtf8-range c.args.paragraph.now.text.now c.args.line.now c.requires.utf8 c.requires.range))

pub keep_first_units-requires : goal.keep_first_units-requires
keep_first_units-requires c =
    let w = (goal.at.keep_first_units-requires c).In_ok-show in
    length-shown (analysed_in c.args.paragraph.now.analysis.now (chars c.args.paragraph.now.text.now)) has_units c.args.paragraph.now.analysis.now.level c.args.line.now (is_line w) _ (shown w)
    ∙ sym (ap (text_len len_utf8) (ap chars c.new.ensures ∙ chars_of_line w))

pub push_text-requires : goal.push_text-requires
push_text-requires c = grind (arith, length-per_char)

pub returns : goal.returns
returns c =
    let w = (goal.at.returns c).In_ok-show in
    let here = chars_of_line w in
    let levels = per_char-shown (analysed_in c.args.paragraph.now.analysis.now (chars c.args.paragraph.now.text.now)) has_units c.args.paragraph.now.analysis.now.level c.args.line.now (is_line w) _ (shown w) in
    simp append_assoc at (rw (c.in_ok-push_text.ensures, c.as_slice-3.ensures, c.keep_first_units.ensures, c.new.ensures, here, levels) at c.in_ok-push_str.ensures.bytes)
