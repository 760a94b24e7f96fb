-- Texts without direction controls and marks.
use Rattle.std.specs.Prelude.{◌≡◌, ℕ, true, List, All, None}
use Rattle.bidi_base.specs.Source.{Source}
use Rattle.bidi_controls.specs.Controls.{control_of}
use Rattle.bidi_controls.specs.Lines.{is_printable_ascii}

-- none of the characters is a control or a mark
abbrev pub HaveNoControls : Source → List ℕ → Type 0
HaveNoControls source chars = All (λ c. control_of (source.class_of c) c ≡ None) chars

-- no printable ASCII character is a control
abbrev pub HasNoControlInAscii : Source → Type 0
HasNoControlInAscii source = (c : ℕ) → is_printable_ascii c ≡ true → control_of (source.class_of c) c ≡ None
