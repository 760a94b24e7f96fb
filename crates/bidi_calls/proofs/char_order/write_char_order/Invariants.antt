use Rattle.bidi_base.proofs.Common.{◌≡◌, length, map, take, flat_map, char_index, is_boundary, run_of, IsTrue}
use Rattle.bidi_calls.proofs.OrderOfRuns.{run_indexes}
use Rattle.bidi_calls.proofs.char_order.write_char_order.Given as goal

abbrev pub invariant-loop-run : goal.invariant-loop-run
invariant-loop-run g l = record {
  so_far : l.at ≡ length (flat_map (run_indexes g.T.TextSource.encoding.len_of (g.T.TextSource.text l.text).chars l.levels) (take l.run-index (map run_of l.runs)));
  written : take l.at l.out ≡ flat_map (run_indexes g.T.TextSource.encoding.len_of (g.T.TextSource.text l.text).chars l.levels) (take l.run-index (map run_of l.runs));
  boundary : IsTrue (is_boundary g.T.TextSource.encoding.len_of (g.T.TextSource.text l.text).chars l.left.end);
  begins : l.indexes.start ≡ char_index g.T.TextSource.encoding.len_of (g.T.TextSource.text l.text).chars l.left.start;
  ends : l.indexes.end ≡ char_index g.T.TextSource.encoding.len_of (g.T.TextSource.text l.text).chars l.left.end;
}
