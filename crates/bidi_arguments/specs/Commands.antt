-- What arguments ask for.
use Rattle.std.specs.Prelude.{ℕ, Bool, true, false, ◌||◌, is_some, if◌then◌else◌, List, [], ◌∷◌, find, Option, Some, None, Result, Ok, Err, codes}
use Rattle.std.specs.Str.{bytes_eq}
use Rattle.bidi_terminal.specs.Bases.{base_named}
use Rattle.bidi_terminal.specs.Numbers.{number_of}
use Rattle.bidi_explain.specs.Explained.{first_stage_view}
use Rattle.bidi_explain.specs.declared.view.Form.TheVariants.{Page}
use Rattle.bidi_explain.specs.declared.view.StageView.{StageView}
use Rattle.bidi_arguments.specs.Checks.{first_check, flag_named, reads_input_twice, setting_named, with_flag, with_setting}
use Rattle.bidi_arguments.specs.Options.{is_option, is_help, is_version}
use Rattle.bidi_arguments.specs.Shows.{show_setting_named, with_show_setting}
use Rattle.bidi_arguments.specs.declared.check_options.CheckOptions.{CheckOptions}
use Rattle.bidi_arguments.specs.declared.command.Command.{Command}
use Rattle.bidi_arguments.specs.declared.command.Command.TheVariants.{Check, Show, Explain, Help, Version}
use Rattle.bidi_arguments.specs.declared.operands.Operands.{Operands}
use Rattle.bidi_arguments.specs.declared.operands.Operands.TheVariants.{Texts, Files, Lines}
use Rattle.bidi_arguments.specs.declared.refusal.Refusal.{Refusal}
use Rattle.bidi_arguments.specs.declared.refusal.Refusal.TheVariants.{NoSubcommand, NotASubcommand, NotAnOption, LateOption, NotAlone, NoValue, NotABase, NotAWidth, InputTwice}
use Rattle.bidi_arguments.specs.declared.refusal.Subcommand.{Subcommand}
use Rattle.bidi_arguments.specs.declared.refusal.Subcommand.TheVariants.{Checking, Showing, Explaining}
use Rattle.bidi_shown.specs.Views.{first_view}
use Rattle.bidi_shown.specs.declared.view.View.{View}

-- the only argument after a subcommand asks for help
abbrev pub asks_help : List (List ℕ) → Bool
asks_help [] = false
asks_help (word ∷ []) = is_help word
asks_help (word ∷ other ∷ words) = false

-- an option that the subcommand does not have, or that must be the only argument
abbrev pub unknown_option : Subcommand → List ℕ → Refusal
unknown_option subcommand word = if is_help word then NotAlone (Some subcommand) word else NotAnOption subcommand word

-- an option after a file or a text
abbrev pub late_option : Subcommand → List ℕ → Refusal
late_option subcommand word = if is_help word then NotAlone (Some subcommand) word else LateOption subcommand word

-- arguments, unless there is an option among them
abbrev pub unless_late : Subcommand → Option (List ℕ) → List (List ℕ) → Result (List (List ℕ)) Refusal
unless_late subcommand None words = Ok words
unless_late subcommand (Some late) words = Err (late_option subcommand late)

-- after the options of a subcommand: arguments that name files, or texts. None of them is an option, unless `--` is
-- before them
abbrev pub file_words : Subcommand → List (List ℕ) → Result (List (List ℕ)) Refusal
file_words subcommand [] = Ok []
file_words subcommand (word ∷ words) =
    if bytes_eq word (codes "--") then Ok words
    else if is_option word then Err (unknown_option subcommand word)
    else unless_late subcommand (find is_option words) (word ∷ words)

-- a command over files, unless one of the arguments is wrong
abbrev pub over_files : (List (List ℕ) → Command) → Result (List (List ℕ)) Refusal → Result Command Refusal
over_files command (Ok files) = Ok (command files)
over_files command (Err refusal) = Err refusal

-- `check` over files, unless one of the arguments is wrong or standard input is read twice
abbrev pub check_over : CheckOptions → Result (List (List ℕ)) Refusal → Result Command Refusal
check_over options (Ok files) = if reads_input_twice options files then Err InputTwice else Ok (Check options files)
check_over options (Err refusal) = Err refusal

-- what follows if there is a value, or else if there is none
abbrev pub by_case : {A B : Type 0} → Option A → (A → B) → B → B
by_case None next otherwise = otherwise
by_case (Some value) next otherwise = next value

-- what follows from options, unless one of them is wrong
abbrev pub by_options : {A : Type 0} → Result A Refusal → (A → Result Command Refusal) → Result Command Refusal
by_options (Err refusal) next = Err refusal
by_options (Ok options) next = next options

-- after `check` and options that ask for this: further options, in any order, and files
abbrev pub check_of : CheckOptions → List (List ℕ) → Result Command Refusal
check_of options [] = check_over options (Ok [])
check_of options (word ∷ []) =
    by_case (flag_named word) (λ flag. check_of (with_flag flag options) [])
    (if is_some (setting_named word) then Err (NoValue Checking word)
    else check_over options (file_words Checking (word ∷ [])))
check_of options (word ∷ value ∷ words) =
    by_case (flag_named word) (λ flag. check_of (with_flag flag options) (value ∷ words))
    (by_case (setting_named word) (λ setting. by_options (with_setting setting value options) (λ next. check_of next words))
    (check_over options (file_words Checking (word ∷ value ∷ words))))

-- what follows from the value after an option, or the error for a value that the option does not take
abbrev pub by_value : {A : Type 0} → Refusal → (A → Result Command Refusal) → Option A → Result Command Refusal
by_value refusal next None = Err refusal
by_value refusal next (Some value) = next value

-- after `show` and options that ask for this view: further options, in any order, and files
abbrev pub show_of : View → List (List ℕ) → Result Command Refusal
show_of view [] = Ok (Show view [])
show_of view (word ∷ []) =
    if bytes_eq word (codes "--plain") then show_of (record view { plain = true }) []
    else if is_some (show_setting_named word) then Err (NoValue Showing word)
    else over_files (Show view) (file_words Showing (word ∷ []))
show_of view (word ∷ value ∷ words) =
    if bytes_eq word (codes "--plain") then show_of (record view { plain = true }) (value ∷ words)
    else by_case (show_setting_named word) (λ setting. by_options (with_show_setting setting value view) (λ next. show_of next words))
    (over_files (Show view) (file_words Showing (word ∷ value ∷ words)))

-- after `explain` and options that ask for this view and these operands: further options, in any order, and texts,
-- files or lines
abbrev pub explain_of : StageView → Operands → List (List ℕ) → Result Command Refusal
explain_of view operands [] = Ok (Explain view operands [])
explain_of view operands (word ∷ []) =
    if bytes_eq word (codes "--html") then explain_of (record view { form = Page }) operands []
    else if bytes_eq word (codes "--files") then explain_of view Files []
    else if bytes_eq word (codes "--line") then explain_of view Lines []
    else if bytes_eq word (codes "--base") || bytes_eq word (codes "--width") then Err (NoValue Explaining word)
    else over_files (Explain view operands) (file_words Explaining (word ∷ []))
explain_of view operands (word ∷ value ∷ words) =
    if bytes_eq word (codes "--html") then explain_of (record view { form = Page }) operands (value ∷ words)
    else if bytes_eq word (codes "--files") then explain_of view Files (value ∷ words)
    else if bytes_eq word (codes "--line") then explain_of view Lines (value ∷ words)
    else if bytes_eq word (codes "--base")
    then by_value (NotABase Explaining value) (λ base. explain_of (record view { base = base }) operands words) (base_named value)
    else if bytes_eq word (codes "--width")
    then by_value (NotAWidth Explaining value) (λ width. explain_of (record view { width = Some width }) operands words) (number_of value)
    else over_files (Explain view operands) (file_words Explaining (word ∷ value ∷ words))

-- an option of the program that must be the only argument
abbrev pub if_alone : List ℕ → List (List ℕ) → Command → Result Command Refusal
if_alone name [] command = Ok command
if_alone name (word ∷ words) command = Err (NotAlone None name)

-- after the program: an argument that is no subcommand, and further arguments
abbrev pub alone_of : List ℕ → List (List ℕ) → Result Command Refusal
alone_of name words =
    if is_help name then if_alone name words (Help None)
    else if is_version name then if_alone name words Version else Err (NotASubcommand name)

-- what arguments ask for, or the argument that is wrong and why
abbrev pub command_of : List (List ℕ) → Result Command Refusal
command_of [] = Err NoSubcommand
command_of (name ∷ words) =
    if bytes_eq name (codes "check") then (if asks_help words then Ok (Help (Some Checking)) else check_of first_check words)
    else if bytes_eq name (codes "show") then (if asks_help words then Ok (Help (Some Showing)) else show_of first_view words)
    else if bytes_eq name (codes "explain")
    then (if asks_help words then Ok (Help (Some Explaining)) else explain_of first_stage_view Texts words)
    else alone_of name words
