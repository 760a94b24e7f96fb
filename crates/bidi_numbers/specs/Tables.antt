-- The caller's tables as a data source.
use Rattle.std.specs.BTreeMap.{get, BTreeMap}
use Rattle.std.specs.Ordering.{nat_cmp}
use Rattle.std.specs.Prelude.{◌≡◌, ℕ, Bool, ◌&&◌, List, map, Option, Some, is_none}
use Rattle.std.specs.List.{list_all}
use Rattle.std.specs.Option.{option_or}
use Rattle.bidi_base.specs.declared.char_data.BidiClass.{BidiClass}
use Rattle.bidi_base.specs.declared.data_source.BidiMatchedOpeningBracket.{BidiMatchedOpeningBracket}
use Rattle.bidi_base.specs.Source.{Source, table_bracket, table_fault, table_source}
use Rattle.bidi_numbers.specs.declared.fault.Fault.{Fault}
use Rattle.bidi_numbers.specs.declared.fault.Fault.TheVariants.{NotScalar, BadClass, BadRanges}
use Rattle.bidi_numbers.specs.declared.structs.BracketPair.{BracketPair}
use Rattle.bidi_numbers.specs.declared.structs.ClassRange.{ClassRange}
use Rattle.bidi_numbers.specs.Faults.{fault_unless}
use Rattle.bidi_numbers.specs.Numbers.{class_numbered, is_class}
use Rattle.bidi_numbers.specs.Texts.{is_scalar}

-- the ends of a range are scalar values, and so are the brackets of a pair and its normal form; the number of a range
-- is that of a class
abbrev pub has_scalars : ClassRange → Bool
has_scalars r = is_scalar r.first && is_scalar r.last

abbrev pub has_brackets : BracketPair → Bool
has_brackets p = is_scalar p.opening && (is_scalar p.closing && is_scalar p.normal_form)

abbrev pub has_class : ClassRange → Bool
has_class r = is_class r.class

-- a range and a pair as the library reads them
abbrev pub range_of : ClassRange → ℕ × ℕ × BidiClass
range_of r = (r.first, r.last, class_numbered r.class)

abbrev pub bracket_of : BracketPair → ℕ × ℕ × Option ℕ
bracket_of p = (p.opening, p.closing, Some p.normal_form)

-- a map has the bracket data that a source, or a table of pairs, gives each character
abbrev pub HasBracketsOf : Source → BTreeMap ℕ BidiMatchedOpeningBracket → Type 0
HasBracketsOf source map = (c : ℕ) → get nat_cmp map c ≡ source.bracket_of c

abbrev pub HasBrackets : List (ℕ × ℕ × Option ℕ) → BTreeMap ℕ BidiMatchedOpeningBracket → Type 0
HasBrackets brackets map = (c : ℕ) → get nat_cmp map c ≡ table_bracket brackets c

-- the first fault of the rows, each by itself
abbrev pub rows_fault : List ClassRange → List BracketPair → Option Fault
rows_fault ranges brackets =
    option_or (fault_unless (list_all has_scalars ranges) NotScalar)
    (option_or (fault_unless (list_all has_brackets brackets) NotScalar)
    (fault_unless (list_all has_class ranges) BadClass))

-- the fault of the order of ranges
abbrev pub order_fault : List (ℕ × ℕ × BidiClass) → Option Fault
order_fault ranges = fault_unless (is_none (table_fault ranges)) BadRanges

-- the first fault of the tables
abbrev pub tables_fault : List ClassRange → List BracketPair → Option Fault
tables_fault ranges brackets = option_or (rows_fault ranges brackets) (order_fault (map range_of ranges))

-- the tables as a data source
abbrev pub rows_source : List ClassRange → List BracketPair → Source
rows_source ranges brackets = table_source (map range_of ranges) (map bracket_of brackets)
