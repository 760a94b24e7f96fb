use Rattle.bidi_base.proofs.Common.{◌≡◌, ℕ, List, ◌++◌, length, take, ap, ◌∙◌, arith, take-append_seam}
use Rattle.bidi_lines.specs.Analysed.{text_of}
use Rattle.bidi_lines.proofs.StoredLine.{same_len, within, has_rtl-chars, classes_IsPerChar, levels_IsPerChar}
use Rattle.bidi_lines.proofs.TextOfLine.{visual_runs_at_boundaries}
use Rattle.bidi_lines.proofs.analysed.Analysed.reversed_line.Goals as goal

-- the elements of a vector that was written over whole
all_written : {X : Type 0} (new rest : List X) (len : ℕ) → len ≡ length new → take len (new ++ rest) ≡ new
all_written new rest len e = ap (λ n. take n (new ++ rest)) e ∙ take-append_seam new rest

pub slice_bounds-classes-end : goal.slice_bounds-classes-end
slice_bounds-classes-end g c = grind (arith, same_len, within)

pub slice_bounds-levels-end : goal.slice_bounds-levels-end
slice_bounds-levels-end g c = grind (arith, within)

pub returns-then-not-line_has_rtl : goal.returns-then-not-line_has_rtl
returns-then-not-line_has_rtl g c = grind (arith, has_rtl-chars)

pub write_line-requires-clause-runs : goal.write_line-requires-clause-runs
write_line-requires-clause-runs g c =
    let len = g.T.TextSource.encoding.len_of in
    let some = g.T.TextSource.encoding.positive in
    rw c.text-text.ensures (visual_runs_at_boundaries len some (g.T.TextSource.text (text_of c.args.self.now)).chars c.args.para_level c.original_classes.result.now c.levels.result.now c.args.line.start c.args.line.end
    (classes_IsPerChar len some _ _ c.original_classes.ensures.per_char) (levels_IsPerChar len some _ _ c.levels.ensures.per_char) c.requires)

pub returns-clause-text : goal.returns-clause-text
returns-clause-text g c =
    all_written c.write_line.new.out _ c.in_ok-out.out.len (grind arith)
    ∙ (rw (c.text-text.ensures, c.original_classes.ensures.classes, c.levels.ensures.levels) at c.in_ok-write_line.ensures.text)

pub returns-clause-still : goal.returns-clause-still
returns-clause-still g c = grind (arith, has_rtl-chars)
