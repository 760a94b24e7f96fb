-- The numbers of classes, levels, split rules and directions.
use Rattle.std.specs.Prelude.{ℕ, Bool, ◌==◌, nat_lt, if◌then◌else◌, List, map, Option, Some, None}
use Rattle.bidi_base.specs.declared.char_data.BidiClass.{BidiClass}
use Rattle.bidi_base.specs.declared.char_data.BidiClass.TheVariants.{L, R, AL, EN, ES, ET, AN, CS, NSM, BN, B, S, WS, ON, LRE, LRO, RLE, RLO, PDF, LRI, RLI, FSI, PDI}
use Rattle.bidi_base.specs.declared.char_data.Direction.{Direction}
use Rattle.bidi_base.specs.declared.char_data.Direction.TheVariants.{Ltr, Rtl, Mixed}
use Rattle.bidi_base.specs.Classes.{class_count}
use Rattle.bidi_base.specs.Direction.{base_direction, full_base_direction}
use Rattle.bidi_base.specs.Paragraphs.{paragraphs_of, each_separator}
use Rattle.bidi_base.specs.Source.{Source}
use Rattle.bidi_base.specs.declared.split_rule.SplitRule.{SplitRule}
use Rattle.bidi_base.specs.declared.split_rule.SplitRule.TheVariants.{EachSeparator, CrLfTogether}

-- the number is that of a class
abbrev pub is_class : ℕ → Bool
is_class n = nat_lt n class_count

-- the class of such a number, and PDI for any other
unfoldable pub class_numbered : ℕ → BidiClass
class_numbered n =
    if n == 0 then L else if n == 1 then R else if n == 2 then AL else if n == 3 then EN
    else if n == 4 then ES else if n == 5 then ET else if n == 6 then AN else if n == 7 then CS
    else if n == 8 then NSM else if n == 9 then BN else if n == 10 then B else if n == 11 then S
    else if n == 12 then WS else if n == 13 then ON else if n == 14 then LRE else if n == 15 then LRO
    else if n == 16 then RLE else if n == 17 then RLO else if n == 18 then PDF else if n == 19 then LRI
    else if n == 20 then RLI else if n == 21 then FSI else PDI

-- the number is that of a level
abbrev pub is_level : ℕ → Bool
is_level n = nat_lt n 127

-- the number is that of a split rule, or that of none
abbrev pub is_split : ℕ → Bool
is_split n = nat_lt n 3

-- the split rule of such a number
abbrev pub split_of : ℕ → Option SplitRule
split_of n = if n == 0 then None else if n == 1 then Some EachSeparator else Some CrLfTogether

-- the number of a direction
abbrev pub direction_number : Direction → ℕ
direction_number Ltr = 0
direction_number Rtl = 1
direction_number Mixed = 2

-- the number of the base direction of these characters: that of the first paragraph, or with `full` of the first
-- paragraph that has one
unfoldable pub direction_in : Source → Bool → List ℕ → ℕ
direction_in source full chars =
    let classes = map (map source.class_of) (paragraphs_of (each_separator source) chars) in
    direction_number (if full then full_base_direction classes else base_direction classes)
