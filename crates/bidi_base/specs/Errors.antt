-- The messages of errors.
use Rattle.std.specs.Prelude.{ℕ, List, ◌++◌, codes, decimal}
use Rattle.bidi_base.specs.declared.data_source.TableError.{TableError}
use Rattle.bidi_base.specs.declared.data_source.TableError.TheVariants.{Reversed, NotAscending}
use Rattle.bidi_base.specs.declared.level.Error.{Error}
use Rattle.bidi_base.specs.declared.level.VecError.{VecError}
use Rattle.bidi_base.specs.declared.level.VecError.TheVariants.{OutOfRangeNumber, Memory}

-- the message of an error for a level
abbrev pub level_error_text : Error → List ℕ
level_error_text error = codes "level out of range"

-- the message of an error for a list of levels
abbrev pub levels_error_text : VecError → List ℕ
levels_error_text OutOfRangeNumber = codes "level out of range"
levels_error_text Memory = codes "out of memory"

-- the message of an error for a table of ranges
abbrev pub table_error_text : TableError → List ℕ
table_error_text (Reversed index) = codes "range " ++ decimal index ++ codes " ends before it begins"
table_error_text (NotAscending index) = codes "range " ++ decimal index ++ codes " begins at or before the end of the one before it"
