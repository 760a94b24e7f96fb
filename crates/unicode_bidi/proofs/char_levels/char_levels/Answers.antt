use Rattle.bidi_base.proofs.Common.{◌≡◌, ◌∙◌, sym, ap, arith, text_len, subrange, levels_of_line, AreLevelsOfLine}
use Rattle.bidi_lines.specs.Analysed.{analysed}
use Rattle.bidi_lines.specs.LineLevels.{levels as kept_levels}
use Rattle.bidi_lines.proofs.StoredLine.{same_len, within, length-shown, per_char-shown, of_line}
use Rattle.unicode_bidi.proofs.char_levels.char_levels.Goals as goal
use Rattle.unicode_bidi.proofs.char_levels.char_levels.Goals.{In_ok-show}
use Rattle.unicode_bidi.proofs.char_levels.char_levels.Given.{Over}

pub slice_bounds-classes-end : goal.slice_bounds-classes-end
slice_bounds-classes-end g c = grind (arith, same_len, within)

pub slice_bounds-show-end : goal.slice_bounds-show-end
slice_bounds-show-end g c = grind (arith, within)

-- the levels of the line's units
shown : (g : Over) (c : In_ok-show g) → AreLevelsOfLine (analysed c.args.analysed.now) c.args.para_level c.args.line (kept_levels c.show.new.self)
shown g c =
    let a = c.args.analysed.now in
    let is : kept_levels c.show.new.self ≡ levels_of_line c.args.para_level a.original_classes.items a.levels.items c.args.line.start c.args.line.end = grind arith in
    of_line g.T.TextSource.encoding.len_of g.T.TextSource.encoding.positive (g.T.TextSource.text a.text).chars c.args.para_level a.original_classes.items a.levels.items c.args.line a.classes_per_char a.levels_per_char c.requires (kept_levels c.show.new.self) is

pub keep_first_units-requires : goal.keep_first_units-requires
keep_first_units-requires g c =
    let w = (goal.at.keep_first_units-requires g c).In_ok-show in
    let a = c.args.analysed.now in
    let encoding = g.T.TextSource.encoding in
    let chars : (g.T.TextSource.text c.subrange.result).chars ≡ subrange encoding.len_of (g.T.TextSource.text a.text).chars c.args.line.start c.args.line.end = grind arith in
    length-shown (analysed a) encoding.positive c.args.para_level c.args.line c.requires _ (shown g w) ∙ sym (ap (text_len encoding.len_of) chars)

pub returns : goal.returns
returns g c =
    let w = (goal.at.returns g c).In_ok-show in
    let a = c.args.analysed.now in
    let encoding = g.T.TextSource.encoding in
    let chars : (g.T.TextSource.text c.subrange.result).chars ≡ subrange encoding.len_of (g.T.TextSource.text a.text).chars c.args.line.start c.args.line.end = grind arith in
    simp (c.keep_first_units.ensures, chars) (per_char-shown (analysed a) encoding.positive c.args.para_level c.args.line c.requires _ (shown g w))
