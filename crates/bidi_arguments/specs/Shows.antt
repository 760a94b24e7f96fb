-- What the options of `show` ask for.
use Rattle.std.specs.Prelude.{ℕ, Bool, true, false, if◌then◌else◌, List, Option, Some, None, Result, Ok, Err, codes}
use Rattle.std.specs.Str.{bytes_eq}
use Rattle.bidi_display.specs.declared.options.Moves.{Moves}
use Rattle.bidi_display.specs.declared.options.Moves.TheVariants as move
use Rattle.bidi_terminal.specs.Bases.{base_named}
use Rattle.bidi_terminal.specs.Numbers.{number_of}
use Rattle.bidi_shown.specs.declared.view.View.{View}
use Rattle.bidi_shown.specs.declared.view.Widths.{Widths}
use Rattle.bidi_shown.specs.declared.view.Widths.TheVariants as columns
use Rattle.bidi_arguments.specs.declared.refusal.Choice.TheVariants as choice
use Rattle.bidi_arguments.specs.declared.refusal.Refusal.{Refusal}
use Rattle.bidi_arguments.specs.declared.refusal.Refusal.TheVariants.{NotABase, NotAChoice, NotAWidth}
use Rattle.bidi_arguments.specs.declared.refusal.Subcommand.TheVariants.{Showing}
use Rattle.bidi_arguments.specs.declared.show_options.ShowSetting.{ShowSetting}
use Rattle.bidi_arguments.specs.declared.show_options.ShowSetting.TheVariants.{Ambiguous, BaseOf, Controls, Mirror, MovesOf, WidthOf, WidthsOf}

-- the values that words name
abbrev pub moves_named : List ℕ → Option Moves
moves_named word =
    if bytes_eq word (codes "clusters") then Some move.Clusters
    else if bytes_eq word (codes "marks") then Some move.Marks
    else if bytes_eq word (codes "characters") then Some move.Characters
    else None

-- characters are mirrored
abbrev pub mirror_named : List ℕ → Option Bool
mirror_named word =
    if bytes_eq word (codes "yes") then Some true
    else if bytes_eq word (codes "no") then Some false
    else None

-- direction controls are kept
abbrev pub controls_named : List ℕ → Option Bool
controls_named word =
    if bytes_eq word (codes "drop") then Some false
    else if bytes_eq word (codes "keep") then Some true
    else None

abbrev pub widths_named : List ℕ → Option Widths
widths_named word =
    if bytes_eq word (codes "clusters") then Some columns.Clusters
    else if bytes_eq word (codes "characters") then Some columns.Characters
    else None

-- ambiguous characters are wide
abbrev pub ambiguous_named : List ℕ → Option Bool
ambiguous_named word =
    if bytes_eq word (codes "narrow") then Some false
    else if bytes_eq word (codes "wide") then Some true
    else None

-- the options with a value
unfoldable pub show_setting_named : List ℕ → Option ShowSetting
show_setting_named word =
    if bytes_eq word (codes "--ambiguous") then Some Ambiguous
    else if bytes_eq word (codes "--base") then Some BaseOf
    else if bytes_eq word (codes "--controls") then Some Controls
    else if bytes_eq word (codes "--mirror") then Some Mirror
    else if bytes_eq word (codes "--moves") then Some MovesOf
    else if bytes_eq word (codes "--width") then Some WidthOf
    else if bytes_eq word (codes "--widths") then Some WidthsOf
    else None

-- a view with a value, or the error for a word that names none
abbrev pub view_with : {A : Type 0} → Refusal → (A → View) → Option A → Result View Refusal
view_with refusal with_value None = Err refusal
view_with refusal with_value (Some value) = Ok (with_value value)

abbrev pub with_base : List ℕ → View → Result View Refusal
with_base value view = view_with (NotABase Showing value) (λ base. record view { base = base }) (base_named value)

abbrev pub with_width : List ℕ → View → Result View Refusal
with_width value view = view_with (NotAWidth Showing value) (λ width. record view { width = Some width }) (number_of value)

abbrev pub with_moves : List ℕ → View → Result View Refusal
with_moves value view = view_with (NotAChoice choice.Moves value) (λ moves. record view { moves = moves }) (moves_named value)

abbrev pub with_mirror : List ℕ → View → Result View Refusal
with_mirror value view =
    view_with (NotAChoice choice.Mirror value) (λ mirrors. record view { mirrors = mirrors }) (mirror_named value)

abbrev pub with_controls : List ℕ → View → Result View Refusal
with_controls value view =
    view_with (NotAChoice choice.Controls value) (λ keeps. record view { keeps_controls = keeps }) (controls_named value)

abbrev pub with_widths : List ℕ → View → Result View Refusal
with_widths value view =
    view_with (NotAChoice choice.Widths value) (λ widths. record view { widths = widths }) (widths_named value)

abbrev pub with_ambiguous : List ℕ → View → Result View Refusal
with_ambiguous value view =
    view_with (NotAChoice choice.Ambiguous value) (λ wide. record view { wide_ambiguous = wide }) (ambiguous_named value)

-- what a view is with one more option
unfoldable pub with_show_setting : ShowSetting → List ℕ → View → Result View Refusal
with_show_setting Ambiguous value view = with_ambiguous value view
with_show_setting BaseOf value view = with_base value view
with_show_setting Controls value view = with_controls value view
with_show_setting Mirror value view = with_mirror value view
with_show_setting MovesOf value view = with_moves value view
with_show_setting WidthOf value view = with_width value view
with_show_setting WidthsOf value view = with_widths value view
