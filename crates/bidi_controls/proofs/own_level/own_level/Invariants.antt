use Rattle.bidi_base.proofs.Common.{◌≡◌, ◌≤◌, drop, map, level_by, deciding_class}
use Rattle.bidi_laws.proofs.IsolateWalk.{deciding_from}
use Rattle.bidi_controls.proofs.own_level.own_level.Given as goal

abbrev pub invariant-loop-c : goal.invariant-loop-c
invariant-loop-c g l = record {
  few : l.depth ≤ l.c-index;
  same : level_by (deciding_from l.depth (map (g.D.BidiDataSource.source l.fn.data_source).class_of (drop l.c-index l.chars)))
      ≡ level_by (deciding_class (map (g.D.BidiDataSource.source l.fn.data_source).class_of l.chars));
}
