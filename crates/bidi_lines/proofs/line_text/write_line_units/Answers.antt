use Rattle.bidi_base.proofs.Common.{◌≡◌, ◌+◌, [], ◌∷◌, map, flat_map, length, ap, sym, ◌∙◌, arith, common_steps, nil_from_length, run_of, visual_runs}
use Rattle.bidi_lines.proofs.FoundRuns.{AreVisualRuns-from_same, visual_runs-nil}
use Rattle.bidi_lines.proofs.WrittenRuns.{ranges_at_boundaries}
use Rattle.bidi_lines.proofs.TextOfLine.{runs_begin}
use Rattle.bidi_lines.specs.LineUnits.{run_units}
use Rattle.bidi_lines.proofs.RunLengths.{visual_runs-whole}
use Rattle.bidi_lines.proofs.line_text.write_line_units.Given.{Over}
use Rattle.bidi_lines.proofs.line_text.write_line_units.Goals as goal
use Rattle.bidi_lines.proofs.line_text.write_line_units.Goals.{Then-first-levels}

-- the one run
one : (g : Over) (c : Then-first-levels g) → map run_of (c.args.line ∷ []) ≡ visual_runs c.args.line.start c.args.levels.now
one g c =
    let is_whole : c.first_run_end-first.result ≡ length c.args.levels.now = grind arith in
    let whole = c.first_run_end-first.ensures.whole is_whole c.args.line.start in
    let end : c.args.line.start + c.first_run_end-first.result ≡ c.args.line.end = omega (arith, is_whole, c.requires.same_len) in
    sym (whole ∙ ap (λ e. (c.args.line.start, e) ∷ []) end)

pub write_runs-requires-clause-within : goal.write_runs-requires-clause-within
write_runs-requires-clause-within g c =
    runs_begin c.args.line.start c.args.levels.now (c.args.line ∷ []) (AreVisualRuns-from_same c.args.line.start c.args.levels.now _ (one g (goal.at.write_runs-requires-clause-within g c).Then-first-levels))

pub write_runs-requires-clause-whole : goal.write_runs-requires-clause-whole
write_runs-requires-clause-whole g c =
    visual_runs-whole c.args.line.start c.args.levels.now (c.args.line ∷ []) (AreVisualRuns-from_same c.args.line.start c.args.levels.now _ (one g (goal.at.write_runs-requires-clause-whole g c).Then-first-levels))

pub write_runs-requires-clause-are_lines : goal.write_runs-requires-clause-are_lines
write_runs-requires-clause-are_lines g c =
    ranges_at_boundaries g.T.TextSource.encoding.len_of (g.T.TextSource.text c.args.text).chars (c.args.line ∷ []) _ (one g (goal.at.write_runs-requires-clause-are_lines g c).Then-first-levels) c.requires.runs

pub write_runs-requires-2-clause-within : goal.write_runs-requires-2-clause-within
write_runs-requires-2-clause-within g c =
    runs_begin c.args.line.start c.args.levels.now c.as_slice.result.now (rw c.as_slice.ensures c.in_ok-find_after.ensures.visual)

pub write_runs-requires-2-clause-whole : goal.write_runs-requires-2-clause-whole
write_runs-requires-2-clause-whole g c =
    visual_runs-whole c.args.line.start c.args.levels.now c.as_slice.result.now (rw c.as_slice.ensures c.in_ok-find_after.ensures.visual)

pub write_runs-requires-2-clause-are_lines : goal.write_runs-requires-2-clause-are_lines
write_runs-requires-2-clause-are_lines g c =
    ranges_at_boundaries g.T.TextSource.encoding.len_of (g.T.TextSource.text c.args.text).chars c.as_slice.result.now _ (c.as_slice.ensures ∙ c.in_ok-find_after.ensures.runs) c.requires.runs

pub returns-then-first-levels-clause-text : goal.returns-then-first-levels-clause-text
returns-then-first-levels-clause-text g c =
    let units = run_units g.T.TextSource.encoding.len_of g.T.LineText.encode (g.T.TextSource.text c.args.text).chars (g.T.LineText.units_of c.args.text) c.args.line.start c.args.levels.now in
    c.write_runs.ensures ∙ ap (flat_map units) (one g (goal.at.returns-then-first-levels-clause-text g c).Then-first-levels)

pub returns-clause-text : goal.returns-clause-text
returns-clause-text g c = rw (c.as_slice.ensures ∙ c.in_ok-find_after.ensures.runs) at c.write_runs-2.ensures

pub returns-then-is_empty-clause-text : goal.returns-then-is_empty-clause-text
returns-then-is_empty-clause-text g c =
    let none : length c.args.levels.now ≡ 0 = grind (arith, common_steps) in
    simp (visual_runs-nil c.args.line.start c.args.levels.now none) (nil_from_length c.args.out.now (omega (arith, none, c.requires.room)))
