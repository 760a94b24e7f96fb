-- A paragraph without its separator.
use Rattle.std.specs.Prelude.{ℕ, suc, ◌&&◌, ◌==◌, if◌then◌else◌, List, [], ◌∷◌}
use Rattle.bidi_base.specs.Classes.{is_paragraph_separator}
use Rattle.bidi_base.specs.declared.char_data.BidiClass.{BidiClass}

-- how many entries a list of classes has before the separators (B) at its end
abbrev pub content_len : List BidiClass → ℕ
content_len [] = 0
content_len (c ∷ cs) = if content_len cs == 0 && is_paragraph_separator c then 0 else suc (content_len cs)
