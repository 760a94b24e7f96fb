use Rattle.bidi_base.proofs.Common.{◌≡◌, ◌++◌, false, drop}
use Rattle.bidi_controls.specs.Placeholders.{plain_from}
use Rattle.bidi_controls.proofs.placeholders.write_plain.Given as goal

abbrev pub invariant-loop-index : goal.invariant-loop-index
invariant-loop-index g l =
    l.out.items ++ plain_from (g.D.BidiDataSource.source l.fn.data_source) l.is_inside (drop l.index l.chars) ≡ plain_from (g.D.BidiDataSource.source l.fn.data_source) false l.fn.chars
