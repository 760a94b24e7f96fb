-- A text that a caller passes as the classes and the brackets of its characters alone.
use Rattle.std.specs.Prelude.{◌≡◌, ℕ, ◌<◌, ◌==◌, ◌||◌, List, length, map, Option, is_none}
use Rattle.std.specs.List.{list_all}
use Rattle.std.specs.Option.{option_or}
use Rattle.bidi_base.specs.Texts.{one_each}
use Rattle.bidi_base.specs.declared.char_data.BidiClass.{BidiClass}
use Rattle.bidi_text.specs.ClassText.{bracket_codes_fault, class_chars, class_source}
use Rattle.bidi_calls.specs.Buffers.{AnalysisAsNumbers, analysis_by}
use Rattle.bidi_calls.specs.declared.buffers.Settings.{Settings}
use Rattle.bidi_numbers.specs.declared.fault.Fault.{Fault}
use Rattle.bidi_numbers.specs.declared.fault.Fault.TheVariants.{UnequalLengths, BadClass, BadBracket}
use Rattle.bidi_numbers.specs.Faults.{fault_unless}
use Rattle.bidi_numbers.specs.Numbers.{class_numbered, is_class}

-- there are no bracket codes, or one for each class
abbrev pub HasCodesOrNone : List BidiClass → List ℕ → Type 0
HasCodesOrNone classes codes = 0 < length codes → length codes ≡ length classes

-- the first fault of the two lists. There are no bracket codes, or one for each class.
abbrev pub lists_fault : List ℕ → List ℕ → Option Fault
lists_fault classes brackets =
    option_or (fault_unless (length brackets == 0 || length brackets == length classes) UnequalLengths)
    (option_or (fault_unless (list_all is_class classes) BadClass)
    (fault_unless (is_none (bracket_codes_fault brackets)) BadBracket))

-- characters with these classes and brackets: one for each class
abbrev pub listed_chars : List ℕ → List ℕ → List ℕ
listed_chars classes brackets = class_chars (map class_numbered classes) brackets

-- what a call finds of these characters
abbrev pub analysis_of_lists : Settings → List ℕ → List ℕ → AnalysisAsNumbers
analysis_of_lists settings classes brackets =
    analysis_by class_source settings one_each.len_of (listed_chars classes brackets)
