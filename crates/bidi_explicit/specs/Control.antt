-- The characters at which the explicit pass stops.
use Rattle.std.specs.Prelude.{Bool, ◌||◌}
use Rattle.bidi_base.specs.declared.char_data.BidiClass.{BidiClass}
use Rattle.bidi_base.specs.Classes.{is_opener, is_paragraph_separator, is_pdf, is_pdi}

-- a control: a class that changes the status, or B, which takes the paragraph level and not that of the status (X1 to
-- X8)
abbrev pub is_control : BidiClass → Bool
is_control c = is_paragraph_separator c || (is_opener c || (is_pdi c || is_pdf c))
