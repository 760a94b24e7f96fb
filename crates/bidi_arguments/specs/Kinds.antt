-- The kinds of findings that arguments name.
use Rattle.std.specs.Prelude.{ℕ, ◌==◌, Bool, List, [], ◌∷◌, Option, Some, None}
use Rattle.std.specs.List.{slice_split}
use Rattle.std.specs.Option.{option_and_then}
use Rattle.bidi_controls.specs.Findings.{with_kind}
use Rattle.bidi_controls.specs.declared.finding.Trouble.{Trouble}
use Rattle.bidi_controls.specs.declared.finding.Wanted.{Wanted}
use Rattle.bidi_reports.specs.Kinds.{kind_named, trouble_in}

-- the kind of a finding of this name
abbrev pub trouble_named : List ℕ → Option Trouble
trouble_named word = option_and_then trouble_in (kind_named word)

-- the names of a list, which commas separate
abbrev pub names_in : List ℕ → List (List ℕ)
names_in word = slice_split (λ byte. byte == 44) word

-- these kinds, with the named one among them or not, if there is one
abbrev pub with_named : Bool → Option Trouble → Wanted → Option Wanted
with_named flag None wanted = None
with_named flag (Some kind) wanted = Some (with_kind wanted kind flag)

-- the same for each of these names
abbrev pub with_kinds : Bool → Wanted → List (List ℕ) → Option Wanted
with_kinds flag wanted [] = Some wanted
with_kinds flag wanted (name ∷ names) =
    option_and_then (λ next. with_kinds flag next names) (with_named flag (trouble_named name) wanted)
