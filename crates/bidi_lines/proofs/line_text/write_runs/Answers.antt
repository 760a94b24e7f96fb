use Rattle.bidi_base.proofs.Common.{ℕ, ◌-◌, ◌<◌, ◌≤◌, List, length, get_or, ◌∙◌, arith, Range, sum_by_more, sum_by_more_le}
use Rattle.bidi_lines.specs.LineUnits.{run_units}
use Rattle.bidi_lines.proofs.WrittenRuns.{written_run, run_units-odd, run_units-even}
use Rattle.bidi_lines.proofs.line_text.write_runs.Goals as goal
use Rattle.bidi_lines.proofs.line_text.write_runs.Goals.{then-is_rtl, else-is_rtl}

pub loop-run-preserved : goal.loop-run-preserved
loop-run-preserved g c =
    let len = g.T.TextSource.encoding.len_of in
    let encode = g.T.LineText.encode in
    let cs : List ℕ = (g.T.TextSource.text c.args.text).chars in
    let units = g.T.LineText.units_of c.args.text in
    let d : Range ℕ = record { start = 0; end = 0 } in
    let k = c.loop-run.run-index in
    let run : Range ℕ = get_or c.args.runs.now k d in
    let here = c.requires.within k d c.loop-run-test.true in
    let inside : run.start - c.args.start < length c.args.levels.now = omega (arith, here.0, here.1) in
    let more = sum_by_more (λ (r : Range ℕ). r.end - r.start) c.args.runs.now k d c.loop-run-test.true in
    let whole = sum_by_more_le (λ (r : Range ℕ). r.end - r.start) c.args.runs.now k d c.loop-run-test.true in
    let fits : c.loop-run.at ≤ length c.loop-run.out = omega (arith, c.loop-run.invariant.so_far, whole, c.requires.whole, c.requires.room, c.loop-run.auto.out) in
    let f = run_units len encode cs units c.args.start c.args.levels.now in
    elim c.if-is_rtl.branch [
      | then-is_rtl w ↦ record {
        so_far = omega (arith, w.at-is, more, c.loop-run.invariant.so_far);
        written = rw w.out-is (written_run f c.args.runs.now k d c.loop-run.out w.reverse_run.new.out c.loop-run.at c.if-is_rtl.at _ c.loop-run-test.true c.loop-run.invariant.written fits (grind arith)
            (w.reverse_run.ensures ∙ run_units-odd len encode cs units c.args.start c.args.levels.now run _ _ inside c.index-levels-run.is c.is_rtl.ensures w.if-is_rtl.true));
      }
      | else-is_rtl w ↦ record {
        so_far = omega (arith, w.at-is, more, c.loop-run.invariant.so_far);
        written = rw w.out-is (written_run f c.args.runs.now k d c.loop-run.out w.copy_run.new.out c.loop-run.at c.if-is_rtl.at _ c.loop-run-test.true c.loop-run.invariant.written fits (grind arith)
            (w.copy_run.ensures ∙ run_units-even len encode cs units c.args.start c.args.levels.now run _ _ inside c.index-levels-run.is c.is_rtl.ensures w.if-is_rtl.false));
      }
    ]
