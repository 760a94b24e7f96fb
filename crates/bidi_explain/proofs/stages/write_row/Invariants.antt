use Rattle.bidi_base.proofs.Common.{◌≡◌, length, zip, drop}
use Rattle.bidi_explain.specs.Stages.{written}
use Rattle.bidi_explain.proofs.stages.write_row.Given as goal

abbrev pub invariant-loop-at : goal.invariant-loop-at
invariant-loop-at l = record {
  long : length l.row.items ≡ length l.fn.row.items;
  rest : written l.row.items (zip (drop l.at l.places) (drop l.at l.values)) ≡ written l.fn.row.items (zip l.places l.values);
}
