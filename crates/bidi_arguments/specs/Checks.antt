-- What the options of `check` ask for.
use Rattle.std.specs.Prelude.{ℕ, Bool, true, false, not, ◌&&◌, ◌||◌, if◌then◌else◌, List, [], ◌∷◌, Option, Some, None, is_some, Result, Ok, Err, codes}
use Rattle.std.specs.List.{list_any}
use Rattle.std.specs.Str.{bytes_eq}
use Rattle.bidi_controls.specs.Findings.{everything, misleading, nothing, unmatched}
use Rattle.bidi_controls.specs.declared.finding.Wanted.{Wanted}
use Rattle.bidi_arguments.specs.Kinds.{names_in, with_kinds}
use Rattle.bidi_reports.specs.declared.form.Form.{Form}
use Rattle.bidi_reports.specs.declared.form.Form.TheVariants as form
use Rattle.bidi_reports.specs.declared.form.Notes.{Notes}
use Rattle.bidi_reports.specs.declared.form.Notes.TheVariants.{Overridden, Escaped}
use Rattle.bidi_arguments.specs.declared.check_options.CheckOptions.{CheckOptions}
use Rattle.bidi_arguments.specs.declared.check_options.Color.{Color}
use Rattle.bidi_arguments.specs.declared.check_options.Color.TheVariants.{Auto, Always, Never}
use Rattle.bidi_arguments.specs.declared.check_options.Flag.{Flag}
use Rattle.bidi_arguments.specs.declared.check_options.Flag.TheVariants.{Any, Follow, Gate, Hidden, Letters, Quiet, StrictAllow, Binary, OnlyUnmatched}
use Rattle.bidi_arguments.specs.declared.check_options.Format.{Format}
use Rattle.bidi_arguments.specs.declared.check_options.Format.TheVariants.{Text, Json, Sarif}
use Rattle.bidi_arguments.specs.declared.check_options.ReportOptions.{ReportOptions}
use Rattle.bidi_arguments.specs.declared.check_options.Setting.{Setting}
use Rattle.bidi_arguments.specs.declared.check_options.Setting.TheVariants.{Allow, ColorOf, Except, FilesFrom, FormatOf, Only, WriteAllow}
use Rattle.bidi_arguments.specs.declared.refusal.Refusal.{Refusal}
use Rattle.bidi_arguments.specs.declared.refusal.Refusal.TheVariants.{NotAFormat, NotAColor, NotKinds}
use Rattle.bidi_arguments.specs.declared.search.Search.{Search}

-- what `check` searches, how it reports and what it looks for without options
abbrev pub first_search : Search
first_search = record { hidden = false; text = false; gate = false; follow = false; list = None }

abbrev pub first_report : ReportOptions
first_report = record { quiet = false; format = Text; color = Auto; allow = None; strict = false; write_allow = None }

abbrev pub first_check : CheckOptions
first_check = record { wanted = misleading; search = first_search; report = first_report }

-- the values that words name
abbrev pub format_named : List ℕ → Option Format
format_named word =
    if bytes_eq word (codes "text") then Some Text
    else if bytes_eq word (codes "json") then Some Json
    else if bytes_eq word (codes "sarif") then Some Sarif
    else None

abbrev pub color_named : List ℕ → Option Color
color_named word =
    if bytes_eq word (codes "auto") then Some Auto
    else if bytes_eq word (codes "always") then Some Always
    else if bytes_eq word (codes "never") then Some Never
    else None

-- the options without a value
unfoldable pub flag_named : List ℕ → Option Flag
flag_named word =
    if bytes_eq word (codes "--any") then Some Any
    else if bytes_eq word (codes "--follow") then Some Follow
    else if bytes_eq word (codes "--gate") then Some Gate
    else if bytes_eq word (codes "--hidden") then Some Hidden
    else if bytes_eq word (codes "--letters") then Some Letters
    else if bytes_eq word (codes "--quiet") then Some Quiet
    else if bytes_eq word (codes "--strict-allow") then Some StrictAllow
    else if bytes_eq word (codes "--text") then Some Binary
    else if bytes_eq word (codes "--unmatched") then Some OnlyUnmatched
    else None

-- the options with a value
unfoldable pub setting_named : List ℕ → Option Setting
setting_named word =
    if bytes_eq word (codes "--allow") then Some Allow
    else if bytes_eq word (codes "--color") then Some ColorOf
    else if bytes_eq word (codes "--except") then Some Except
    else if bytes_eq word (codes "--files-from") then Some FilesFrom
    else if bytes_eq word (codes "--format") then Some FormatOf
    else if bytes_eq word (codes "--only") then Some Only
    else if bytes_eq word (codes "--write-allow") then Some WriteAllow
    else None

-- these kinds with every control and mark, and lines that they make display differently
abbrev pub with_everything : Wanted → Wanted
with_everything wanted = record everything { letters_alone = wanted.letters_alone }

-- what options ask for with one more; if two exclude each other, the last counts
unfoldable pub with_flag : Flag → CheckOptions → CheckOptions
with_flag Any options = record options { wanted = with_everything options.wanted }
with_flag Follow options = record options { search = record options.search { follow = true } }
with_flag Gate options =
    record options { wanted = with_everything options.wanted; search = record options.search { hidden = true; text = true; gate = true } }
with_flag Hidden options = record options { search = record options.search { hidden = true } }
with_flag Letters options = record options { wanted = record options.wanted { letters_alone = true } }
with_flag Quiet options = record options { report = record options.report { quiet = true } }
with_flag StrictAllow options = record options { report = record options.report { strict = true } }
with_flag Binary options = record options { search = record options.search { text = true } }
with_flag OnlyUnmatched options = record options { wanted = unmatched }

abbrev pub with_format : List ℕ → CheckOptions → Option Format → Result CheckOptions Refusal
with_format value options None = Err (NotAFormat value)
with_format value options (Some format) = Ok (record options { report = record options.report { format = format } })

abbrev pub with_color : List ℕ → CheckOptions → Option Color → Result CheckOptions Refusal
with_color value options None = Err (NotAColor value)
with_color value options (Some color) = Ok (record options { report = record options.report { color = color } })

abbrev pub with_allow : List ℕ → CheckOptions → CheckOptions
with_allow value options = record options { report = record options.report { allow = Some value } }

abbrev pub with_write_allow : List ℕ → CheckOptions → CheckOptions
with_write_allow value options = record options { report = record options.report { write_allow = Some value } }

abbrev pub with_list : List ℕ → CheckOptions → CheckOptions
with_list value options = record options { search = record options.search { list = Some value } }

-- these kinds, if the value of an option names kinds
abbrev pub with_wanted : List ℕ → CheckOptions → Option Wanted → Result CheckOptions Refusal
with_wanted value options None = Err (NotKinds value)
with_wanted value options (Some kinds) = Ok (record options { wanted = kinds })

-- exactly the kinds that the value names, or those that are wanted without these
abbrev pub only_kinds : List ℕ → Option Wanted
only_kinds value = with_kinds true nothing (names_in value)

abbrev pub except_kinds : List ℕ → Wanted → Option Wanted
except_kinds value wanted = with_kinds false wanted (names_in value)

unfoldable pub with_setting : Setting → List ℕ → CheckOptions → Result CheckOptions Refusal
with_setting Allow value options = Ok (with_allow value options)
with_setting ColorOf value options = with_color value options (color_named value)
with_setting Except value options = with_wanted value options (except_kinds value options.wanted)
with_setting FilesFrom value options = Ok (with_list value options)
with_setting WriteAllow value options = Ok (with_write_allow value options)
with_setting FormatOf value options = with_format value options (format_named value)
with_setting Only value options = with_wanted value options (only_kinds value)

-- ---- what reads standard input

-- a name that means standard input
abbrev pub is_input : List ℕ → Bool
is_input name = bytes_eq name (codes "-")

-- a list is read from standard input, if there is one
abbrev pub is_input_list : Option (List ℕ) → Bool
is_input_list None = false
is_input_list (Some name) = is_input name

-- standard input is searched: it is one of the files, or there are no files and no list of them
abbrev pub searches_input : Option (List ℕ) → List (List ℕ) → Bool
searches_input None [] = true
searches_input (Some list) [] = false
searches_input list (file ∷ files) = list_any is_input (file ∷ files)

-- two of these read it: the list of what is allowed, the list of files, and the search
abbrev pub reads_input_twice : CheckOptions → List (List ℕ) → Bool
reads_input_twice options files =
    (is_input_list options.report.allow && is_input_list options.search.list)
    || ((is_input_list options.report.allow || is_input_list options.search.list) && searches_input options.search.list files)

-- ---- how the report is written

-- a displayed line has escapes unless standard output is a terminal
abbrev pub notes_of : Bool → Notes
notes_of terminal = if terminal then Overridden else Escaped

-- text has excerpts if standard output is a terminal, and colours if the environment does not ask for none
abbrev pub text_form : Color → Bool → Bool → Form
text_form Auto terminal no_color = form.Text terminal (terminal && not no_color) (notes_of terminal)
text_form Always terminal no_color = form.Text true true (notes_of terminal)
text_form Never terminal no_color = form.Text terminal false (notes_of terminal)

abbrev pub format_form : Format → Color → Bool → Bool → Form
format_form Text color terminal no_color = text_form color terminal no_color
format_form Json color terminal no_color = form.Json
format_form Sarif color terminal no_color = form.Sarif

abbrev pub form_of : ReportOptions → Bool → Bool → Form
form_of options terminal no_color =
    if options.quiet || is_some options.write_allow then form.Quiet else format_form options.format options.color terminal no_color
