use Rattle.bidi_base.proofs.Common.{◌≡◌, ◌+◌, false, is_odd, has_rtl, line_levels, length, ap, sym, ◌∙◌, arith, slice_range}
use Rattle.bidi_lines.proofs.LineLevels.{length-line_levels, has_rtl-even}
use Rattle.bidi_lines.proofs.StillLine.{visual_units-still}
use Rattle.bidi_lines.proofs.line_text.write_line.Goals as goal

pub write_line_units-requires-clause-same_len : goal.write_line_units-requires-clause-same_len
write_line_units-requires-clause-same_len g c =
    let shown = c.as_slice.ensures ∙ c.in_ok-show.ensures.levels in
    let long = ap length shown ∙ length-line_levels c.args.stored.now.level (g.C.ClassList.classes c.args.stored.now.classes) (g.L.LevelList.numbers c.args.stored.now.levels) (sym c.requires.classes_same_len) ∙ c.requires.classes_same_len in
    omega (arith, long, c.requires.levels_same_len)

pub write_line_units-requires-clause-room : goal.write_line_units-requires-clause-room
write_line_units-requires-clause-room g c =
    let shown = c.as_slice.ensures ∙ c.in_ok-show.ensures.levels in
    let long = ap length shown ∙ length-line_levels c.args.stored.now.level (g.C.ClassList.classes c.args.stored.now.classes) (g.L.LevelList.numbers c.args.stored.now.levels) (sym c.requires.classes_same_len) ∙ c.requires.classes_same_len in
    c.requires.room ∙ sym long

pub write_line_units-requires-clause-runs : goal.write_line_units-requires-clause-runs
write_line_units-requires-clause-runs g c = rw (c.as_slice.ensures ∙ c.in_ok-show.ensures.levels) c.requires.runs

pub returns-clause-text : goal.returns-clause-text
returns-clause-text g c = rw (c.as_slice.ensures ∙ c.in_ok-show.ensures.levels) at c.write_line_units.ensures.text

pub returns-then-not-has_rtl-clause-text : goal.returns-then-not-has_rtl-clause-text
returns-then-not-has_rtl-clause-text g c =
    let classes = g.C.ClassList.classes c.args.stored.now.classes in
    let levels = g.L.LevelList.numbers c.args.stored.now.levels in
    let level_even : is_odd c.args.stored.now.level ≡ false = grind arith in
    let even : has_rtl levels ≡ false = grind arith in
    let end : c.args.line.end ≡ c.args.line.start + length (line_levels c.args.stored.now.level classes levels) =
    omega (arith, c.requires.levels_same_len, c.requires.classes_same_len, length-line_levels c.args.stored.now.level classes levels (sym c.requires.classes_same_len)) in
    c.copy_run.ensures ∙ ap (slice_range (g.T.LineText.units_of c.args.text) c.args.line.start) end
    ∙ sym (visual_units-still c.args.line.start (line_levels c.args.stored.now.level classes levels) (has_rtl-even c.args.stored.now.level classes levels (sym c.requires.classes_same_len) level_even even)
    g.T.TextSource.encoding.len_of g.T.LineText.encode (g.T.TextSource.text c.args.text).chars (g.T.LineText.units_of c.args.text))
