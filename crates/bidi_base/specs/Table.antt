-- The data source of tables of ranges and brackets.
use Rattle.bidi_base.specs.declared.data_source.TableBidiData.{TableBidiData}
use Rattle.bidi_base.specs.Source.{Source, table_source}

-- the data source that a `TableBidiData` is
unfoldable pub source_of : TableBidiData → Source
source_of table = table_source table.ranges.now table.brackets.now
