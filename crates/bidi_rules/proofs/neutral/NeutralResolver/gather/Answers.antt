use Rattle.bidi_base.proofs.Common.{ℕ, List, map, take, arith, rules, Source, bounds, kept_in_place}
use Rattle.bidi_rules.specs.NeutralPass.{placed_brackets}
use Rattle.bidi_rules.proofs.Gathered.{placed-append}
use Rattle.bidi_rules.proofs.KeptRuns.{line_at, kept_in_place-none, kept_in_place-more}
use Rattle.bidi_rules.proofs.neutral.NeutralResolver.gather.Goals as goal

pub loop-run-init : goal.loop-run-init
loop-run-init g c = grind (arith, kept_in_place-none)

pub gather_run-requires-clause-is_line : goal.gather_run-requires-clause-is_line
gather_run-requires-clause-is_line g c = search (rules, line_at)

pub loop-run-preserved : goal.loop-run-preserved
loop-run-preserved g c =
    let len_of = g.T.TextSource.encoding.len_of in
    let chars : List ℕ = (g.T.TextSource.text c.args.text).chars in
    let source : Source = g.D.BidiDataSource.source c.args.data_source.now in
    let units = c.args.classes.now in
    let i = c.loop-run.run-index in
    let before = kept_in_place len_of chars units (map bounds (take i c.args.runs.now)) in
    simp (kept_in_place-more len_of chars units c.args.runs.now i c.loop-run-test.true, placed-append len_of chars source units before)
    (c.in_ok-gather_run.ensures (placed_brackets len_of chars source units before) c.loop-run.invariant)

pub gather_run-requires-clause-read : goal.gather_run-requires-clause-read
gather_run-requires-clause-read g c = (_, c.loop-run.invariant)
