use Rattle.bidi_base.proofs.Common.{◌≡◌, ◌-◌, ℕ, [], List, refl, ap, sym, subst, ◌∙◌, arith, length, take, has_rtl, IsLine, visual_runs, levels_of_line, AreLevelsOfLine}
use Rattle.bidi_lines.specs.LineLevels.{levels as levels_in}
use Rattle.bidi_lines.specs.Analysed.{with_lists}
use Rattle.bidi_lines.specs.LineUnits.{AreRunsOfChars}
use Rattle.bidi_lines.proofs.StoredLine.{same_len, within}
use Rattle.bidi_lines.proofs.ShownLines.{on_err}
use Rattle.bidi_lines.proofs.LineByLevels.{none-shown, none-runs, none-runs_of_chars, empty-levels, stored-levels, stored-all, stored-runs_of_chars}
use Rattle.bidi_lines.proofs.shown_line.ShownLine.show_lists.Goals as goal
use Rattle.bidi_lines.proofs.shown_line.ShownLine.show_lists.Goals.{In_ok-show}
use Rattle.bidi_lines.proofs.shown_line.ShownLine.show_lists.Given.{Over}

pub slice_bounds-show-end : goal.slice_bounds-show-end
slice_bounds-show-end g c = grind (arith, same_len, within)

pub slice_bounds-show-end-2 : goal.slice_bounds-show-end-2
slice_bounds-show-end-2 g c = grind (arith, within)

-- the levels after L1
is : (g : Over) (c : In_ok-show g) → let a = with_lists (g.T.TextSource.text c.args.text) c.args.classes.now c.args.levels.now in levels_in c.show.new.self ≡ levels_of_line c.args.para_level a.classes a.levels c.args.line.start c.args.line.end
is g c = grind arith

pub returns-in_err-show-clause-emptied : goal.returns-in_err-show-clause-emptied
returns-in_err-show-clause-emptied g c =
    let s = c.clear.new.self in
    let a = with_lists (g.T.TextSource.text c.args.text) c.args.classes.now c.args.levels.now in
    on_err c.from_residual.result (record {
      len_of = refl;
      chars = ap (λ t. (g.T.TextSource.text t).chars) (sym (c.clear.ensures.text));
      start = c.clear.ensures.start;
      end = c.clear.ensures.end;
      levels = subst (AreLevelsOfLine a c.args.para_level (record { start = 0; end = 0 })) (sym (none-shown a.len_of [] s.start s.end c.clear.ensures.start c.clear.ensures.end _)) (empty-levels a c.args.para_level);
    })

pub find-requires : goal.find-requires
find-requires g c =
    let all = stored-levels g.T.TextSource.encoding.len_of g.T.TextSource.encoding.positive (g.T.TextSource.text c.args.text).chars c.args.para_level c.args.classes.now c.args.levels.now c.args.line c.requires.classes c.requires.levels c.requires.is_line _
    (is g (goal.at.find-requires g c).In_ok-show) in
    omega (arith, all.one_per_unit, ap length c.as_slice.ensures)

pub invariant_of-self-in-Break-branch-2 : goal.invariant_of-self-in-Break-branch-2
invariant_of-self-in-Break-branch-2 g c =
    let s = c.clear.new.self in
    record {
      is_line = s.is_line;
      one_per_unit = omega (arith, c.clear.ensures.start, c.clear.ensures.end);
      runs_of_levels = none-runs g.T.TextSource.encoding.len_of [] s.start s.end c.clear.ensures.start c.clear.ensures.end _ _ (grind arith);
      runs_of_chars = none-runs_of_chars g.T.TextSource.encoding.len_of _ s.start s.end c.clear.ensures.start c.clear.ensures.end _;
      of_levels = s.of_levels ∙ ap has_rtl (none-shown g.T.TextSource.encoding.len_of [] s.start s.end c.clear.ensures.start c.clear.ensures.end _ ∙ sym (none-shown g.T.TextSource.encoding.len_of [] s.start s.end c.clear.ensures.start c.clear.ensures.end _));
    }

pub returns-in_err-find-clause-emptied : goal.returns-in_err-find-clause-emptied
returns-in_err-find-clause-emptied g c =
    let s = c.clear.new.self in
    let a = with_lists (g.T.TextSource.text c.args.text) c.args.classes.now c.args.levels.now in
    on_err c.from_residual-in_err-find.result (record {
      len_of = refl;
      chars = ap (λ t. (g.T.TextSource.text t).chars) (sym (c.clear.ensures.text));
      start = c.clear.ensures.start;
      end = c.clear.ensures.end;
      levels = subst (AreLevelsOfLine a c.args.para_level (record { start = 0; end = 0 })) (sym (none-shown a.len_of [] s.start s.end c.clear.ensures.start c.clear.ensures.end _)) (empty-levels a c.args.para_level);
    })

pub invariant_of-self-2 : goal.invariant_of-self-2
invariant_of-self-2 g c =
    let len = g.T.TextSource.encoding.len_of in
    let some = g.T.TextSource.encoding.positive in
    let chars : List ℕ = (g.T.TextSource.text c.args.text).chars in
    let levels = is g (goal.at.invariant_of-self-2 g c).In_ok-show in
    let all = stored-all len some chars c.args.para_level c.args.classes.now c.args.levels.now c.args.line c.requires.classes c.requires.levels c.requires.is_line _ levels in
    let each = stored-levels len some chars c.args.para_level c.args.classes.now c.args.levels.now c.args.line c.requires.classes c.requires.levels c.requires.is_line _ levels in
    let runs = stored-runs_of_chars len some chars c.args.para_level c.args.classes.now c.args.levels.now c.args.line c.requires.classes c.requires.levels c.requires.is_line _ levels in
    let text = c.clear.ensures.text in
    record {
      is_line = subst (λ t. IsLine len (g.T.TextSource.text t).chars c.args.line.start c.args.line.end) (sym text) c.requires.is_line;
      one_per_unit = omega (arith, each.one_per_unit);
      runs_of_levels = c.in_ok-find.ensures.runs ∙ ap (visual_runs c.args.line.start) (c.as_slice.ensures ∙ sym all);
      runs_of_chars = subst (λ t. AreRunsOfChars len (g.T.TextSource.text t).chars c.args.line.start (take (c.args.line.end - c.args.line.start) (levels_in c.show.new.self))) (sym text) (subst (AreRunsOfChars len chars c.args.line.start) (sym all) runs);
      of_levels = c.has_rtl-self.ensures ∙ ap has_rtl (c.as_slice-2.ensures ∙ sym all);
    }

pub returns-clause-shows : goal.returns-clause-shows
returns-clause-shows g c =
    let len = g.T.TextSource.encoding.len_of in
    let some = g.T.TextSource.encoding.positive in
    let chars : List ℕ = (g.T.TextSource.text c.args.text).chars in
    let levels = is g (goal.at.returns-clause-shows g c).In_ok-show in
    let all = stored-all len some chars c.args.para_level c.args.classes.now c.args.levels.now c.args.line c.requires.classes c.requires.levels c.requires.is_line _ levels in
    let each = stored-levels len some chars c.args.para_level c.args.classes.now c.args.levels.now c.args.line c.requires.classes c.requires.levels c.requires.is_line _ levels in
    record {
      len_of = refl;
      chars = ap (λ t. (g.T.TextSource.text t).chars) (sym (c.clear.ensures.text));
      start = refl;
      end = refl;
      levels = subst (AreLevelsOfLine (with_lists (g.T.TextSource.text c.args.text) c.args.classes.now c.args.levels.now) c.args.para_level c.args.line) (sym all) each;
    }
