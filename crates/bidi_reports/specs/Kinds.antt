-- The kinds of what an allow-list allows.
use Rattle.std.specs.Prelude.{ℕ, Bool, true, false, if◌then◌else◌, List, Option, Some, None, codes}
use Rattle.std.specs.Str.{bytes_eq}
use Rattle.bidi_controls.specs.declared.finding.Trouble.{Trouble}
use Rattle.bidi_controls.specs.declared.finding.Trouble.TheVariants.{NotClosed, ClosesNothing, Present, DisplayedDifferently, LettersAlone}
use Rattle.bidi_reports.specs.Words.{kind_of}
use Rattle.bidi_reports.specs.declared.kind.Kind.{Kind}
use Rattle.bidi_reports.specs.declared.kind.Kind.TheVariants.{Finding, NotUtf8, Link}

-- the name of a kind
abbrev pub kind_name : Kind → List ℕ
kind_name (Finding trouble) = kind_of trouble
kind_name NotUtf8 = codes "not-utf8"
kind_name Link = codes "link"

-- the kind of a name
abbrev pub kind_named : List ℕ → Option Kind
kind_named name =
    if bytes_eq name (codes "not-closed") then Some (Finding NotClosed)
    else if bytes_eq name (codes "closes-nothing") then Some (Finding ClosesNothing)
    else if bytes_eq name (codes "present") then Some (Finding Present)
    else if bytes_eq name (codes "displayed-differently") then Some (Finding DisplayedDifferently)
    else if bytes_eq name (codes "letters-alone") then Some (Finding LettersAlone)
    else if bytes_eq name (codes "not-utf8") then Some NotUtf8
    else if bytes_eq name (codes "link") then Some Link
    else None

-- what is wrong, if it is the kind of a finding
abbrev pub trouble_in : Kind → Option Trouble
trouble_in (Finding trouble) = Some trouble
trouble_in NotUtf8 = None
trouble_in Link = None

abbrev pub is_finding : Kind → Bool
is_finding (Finding trouble) = true
is_finding NotUtf8 = false
is_finding Link = false

-- kinds are the same if their names are
abbrev pub is_same_kind : Kind → Kind → Bool
is_same_kind a b = bytes_eq (kind_name a) (kind_name b)
