use Rattle.bidi_base.proofs.Common.{◌≡◌, ◌+◌, ◌≤◌, Range, ℕ, List, arith, length, sym, refl, get_or, get_or_default, is_odd, run_of, run_level}
use Rattle.bidi_base.proofs.UnitIndexLemmas.{line_unit_indexes}
use Rattle.bidi_base.proofs.UnitsLemmas.{length-from_IsPerChar}
use Rattle.bidi_lines.proofs.WrittenRuns.{written_run}
use Rattle.bidi_calls.proofs.OrderOfRuns.{run_indexes, count-is, index-after, char_index-zero, zero-boundary, range-IsLine, range-begins, run-fits, run-more, run_indexes-is, all-written}
use Rattle.bidi_calls.proofs.char_order.write_char_order.Goals as goal

pub loop-run-init : goal.loop-run-init
loop-run-init g c = record {
  so_far = refl;
  written = refl;
  boundary = zero-boundary g.T.TextSource.encoding.len_of g.T.TextSource.encoding.positive (g.T.TextSource.text c.args.text).chars;
  begins = sym (char_index-zero g.T.TextSource.encoding.len_of g.T.TextSource.encoding.positive (g.T.TextSource.text c.args.text).chars);
  ends = sym (char_index-zero g.T.TextSource.encoding.len_of g.T.TextSource.encoding.positive (g.T.TextSource.text c.args.text).chars);
}

pub count_in-count-requires-clause-is_line : goal.count_in-count-requires-clause-is_line
count_in-count-requires-clause-is_line g c =
    let d : Range ℕ = record { start = 0; end = 0 } in
    range-IsLine g.T.TextSource.encoding.len_of g.T.TextSource.encoding.positive (g.T.TextSource.text c.args.text).chars c.args.levels.now c.requires.per_char c.args.runs.now c.requires.runs c.loop-run.run-index d c.loop-run-test.true

pub count_in-count-requires-clause-are_chars : goal.count_in-count-requires-clause-are_chars
count_in-count-requires-clause-are_chars g c same =
    grind (arith, length-from_IsPerChar g.T.TextSource.encoding.len_of (g.T.TextSource.text c.args.text).chars c.args.levels.now c.requires.per_char, c.requires.room)

pub first_index-first-requires-clause-is_line : goal.first_index-first-requires-clause-is_line
first_index-first-requires-clause-is_line g c =
    let d : Range ℕ = record { start = 0; end = 0 } in
    range-IsLine g.T.TextSource.encoding.len_of g.T.TextSource.encoding.positive (g.T.TextSource.text c.args.text).chars c.args.levels.now c.requires.per_char c.args.runs.now c.requires.runs c.loop-run.run-index d c.loop-run-test.true

pub first_index-first-requires-clause-are_chars : goal.first_index-first-requires-clause-are_chars
first_index-first-requires-clause-are_chars g c same =
    grind (arith, length-from_IsPerChar g.T.TextSource.encoding.len_of (g.T.TextSource.text c.args.text).chars c.args.levels.now c.requires.per_char, c.requires.room)

pub bounds-levels-run : goal.bounds-levels-run
bounds-levels-run g c =
    let d : Range ℕ = record { start = 0; end = 0 } in
    range-begins g.T.TextSource.encoding.len_of g.T.TextSource.encoding.positive (g.T.TextSource.text c.args.text).chars c.args.levels.now c.requires.per_char c.args.runs.now c.requires.runs c.loop-run.run-index d c.loop-run-test.true

pub slice_bounds-write_indexes-end : goal.slice_bounds-write_indexes-end
slice_bounds-write_indexes-end g c =
    let len = g.T.TextSource.encoding.len_of in
    let cs : List ℕ = (g.T.TextSource.text c.args.text).chars in
    let d : Range ℕ = record { start = 0; end = 0 } in
    let k = c.loop-run.run-index in
    let run : Range ℕ = get_or c.args.runs.now k d in
    let line = range-IsLine len g.T.TextSource.encoding.positive cs c.args.levels.now c.requires.per_char c.args.runs.now c.requires.runs k d c.loop-run-test.true in
    let own = count-is len g.T.TextSource.encoding.positive cs run.start run.end c.count_in-count.result line c.count_in-count.ensures in
    let room = run-fits len g.T.TextSource.encoding.positive cs c.args.levels.now c.requires.per_char c.args.runs.now c.requires.runs k d c.loop-run-test.true in
    let fits : c.loop-run.at + c.count_in-count.result ≤ length c.loop-run.out = omega (arith, c.loop-run.invariant.so_far, own, room, c.requires.room, c.loop-run.auto.out) in
    fits

pub loop-run-preserved : goal.loop-run-preserved
loop-run-preserved g c =
    let len = g.T.TextSource.encoding.len_of in
    let cs : List ℕ = (g.T.TextSource.text c.args.text).chars in
    let d : Range ℕ = record { start = 0; end = 0 } in
    let k = c.loop-run.run-index in
    let run : Range ℕ = get_or c.args.runs.now k d in
    let line = range-IsLine len g.T.TextSource.encoding.positive cs c.args.levels.now c.requires.per_char c.args.runs.now c.requires.runs k d c.loop-run-test.true in
    let begins = range-begins len g.T.TextSource.encoding.positive cs c.args.levels.now c.requires.per_char c.args.runs.now c.requires.runs k d c.loop-run-test.true in
    let front = c.first_index-first.ensures in
    let own = count-is len g.T.TextSource.encoding.positive cs run.start run.end c.count_in-count.result line c.count_in-count.ensures in
    let ordered = (line_unit_indexes len g.T.TextSource.encoding.positive cs run.start run.end line).ordered in
    let room = run-fits len g.T.TextSource.encoding.positive cs c.args.levels.now c.requires.per_char c.args.runs.now c.requires.runs k d c.loop-run-test.true in
    let more = run-more len g.T.TextSource.encoding.positive cs c.args.levels.now c.requires.per_char c.args.runs.now c.requires.runs k d c.loop-run-test.true in
    let fits : c.loop-run.at ≤ length c.loop-run.out = omega (arith, c.loop-run.invariant.so_far, room, c.requires.room, c.loop-run.auto.out) in
    let level = get_or_default c.args.levels.now run.start c.index-levels-run.result 0 begins in
    let odd : c.is_rtl-is_rtl.result ≡ is_odd (run_level 0 c.args.levels.now (run_of run)) = grind (arith, level, c.index-levels-run.is, c.is_rtl-is_rtl.ensures) in
    record {
      so_far = omega (arith, c.loop-run.invariant.so_far, more, own);
      boundary = line.ends;
      begins = front;
      ends = index-after len g.T.TextSource.encoding.positive cs run.start run.end c.first_index-first.result c.count_in-count.result line front c.count_in-count.ensures;
      written = written_run (run_indexes len cs c.args.levels.now) c.args.runs.now k d c.loop-run.out c.write_indexes.new.out c.loop-run.at _ _ c.loop-run-test.true c.loop-run.invariant.written fits (grind arith)
          (run_indexes-is len g.T.TextSource.encoding.positive cs c.args.levels.now c.requires.per_char run c.is_rtl-is_rtl.result c.first_index-first.result _ c.write_indexes.new.out odd front (grind (arith, front, own, ordered)) c.write_indexes.ensures);
    }

pub returns : goal.returns
returns g c =
    all-written g.T.TextSource.encoding.len_of g.T.TextSource.encoding.positive (g.T.TextSource.text c.args.text).chars c.args.levels.now c.requires.per_char c.args.runs.now c.loop-run.run-index c.loop-run.at c.loop-run.out
    c.requires.runs (omega (arith, c.loop-run-test.false)) (omega (arith, c.requires.room, c.loop-run.auto.out)) c.loop-run.invariant.so_far c.loop-run.invariant.written
