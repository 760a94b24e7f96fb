use Rattle.bidi_base.proofs.Common.{arith}
use Rattle.bidi_base.specs.Source.{table_source}
use Rattle.bidi_base.specs.Table.{source_of}
use Rattle.bidi_base.proofs.TableLemmas.{table_bracket-at, table_bracket-none}
use Rattle.bidi_base.proofs.data_source.TableBidiDataBidiDataSource.bidi_matched_opening_bracket.Goals as goal
use Rattle.bidi_base.proofs.data_source.TableBidiDataBidiDataSource.bidi_matched_opening_bracket.Goals.{then-c-opening-via-then-c-opening, then-c-opening-via-else-c-opening+then-c-closing}

pub returns-then-c-opening : goal.returns-then-c-opening
unfolding source_of table_source
returns-then-c-opening c = grind (arith, table_bracket-at)

pub returns : goal.returns
unfolding source_of table_source
returns c = grind (arith, table_bracket-none)
