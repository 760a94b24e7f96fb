-- The rows of a paragraph's stages, each as its label and a cell for each character.
use Rattle.std.specs.Prelude.{ℕ, List, [], ◌∷◌, length, map, zip, codes, decimal}
use Rattle.std.specs.List.{range_with_len}
use Rattle.bidi_explain.specs.Cells.{class_name, option_name, glyph}
use Rattle.bidi_terminal.specs.CodePoints.{code_point}
use Rattle.bidi_explain.specs.declared.stages.Stages.{Stages}

-- those of the stages
abbrev pub stage_rows : List ℕ → Stages → List (List ℕ × List (List ℕ))
stage_rows chars s =
    (codes "index         ", map decimal (range_with_len 0 (length chars)))
    ∷ (codes "code point    ", map code_point chars)
    ∷ (codes "class         ", map class_name s.classes.items)
    ∷ (codes "after X       ", map class_name s.explicit.classes)
    ∷ (codes "explicit level", map decimal s.explicit.levels)
    ∷ (codes "after W       ", map option_name s.weak.items)
    ∷ (codes "after N       ", map option_name s.neutral.items)
    ∷ (codes "level         ", map decimal s.levels.items)
    ∷ (codes "level in line ", map decimal s.line_levels.items)
    ∷ (codes "visual place  ", map decimal s.places.items)
    ∷ []

-- the characters above them
abbrev pub rows_from : List ℕ → Stages → List (List ℕ × List (List ℕ))
rows_from chars s = (codes "character     ", map (λ e. glyph e.0 e.1) (zip s.classes.items chars)) ∷ stage_rows chars s
