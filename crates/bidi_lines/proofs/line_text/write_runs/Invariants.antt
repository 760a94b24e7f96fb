use Rattle.bidi_base.proofs.Common.{◌≡◌, ◌-◌, map, take, flat_map, run_of}
use Rattle.std.specs.Prelude.{sum_by}
use Rattle.bidi_lines.specs.LineUnits.{run_units}
use Rattle.bidi_lines.proofs.line_text.write_runs.Given as goal

abbrev pub invariant-loop-run : goal.invariant-loop-run
invariant-loop-run g l = record {
  so_far : l.at ≡ sum_by (λ r. r.end - r.start) (take l.run-index l.runs);
  written : take l.at l.out
      ≡ flat_map (run_units g.T.TextSource.encoding.len_of g.T.LineText.encode (g.T.TextSource.text l.text).chars (g.T.LineText.units_of l.text) l.start l.levels) (take l.run-index (map run_of l.runs));
}
