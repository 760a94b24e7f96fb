-- Tabs as spaces.
use Rattle.std.specs.Prelude.{ℕ, ◌+◌, ◌%◌, ◌==◌, if◌then◌else◌, List, [], ◌∷◌, ◌++◌, replicate}
use Rattle.bidi_shown.specs.Clusters.{columns, tab_columns}

-- characters with spaces for each tab, the first at this column
abbrev pub spread : ℕ → List ℕ → List ℕ
spread column [] = []
spread column (c ∷ cs) =
    if c == 0x09 then replicate (tab_columns column) 0x20 ++ spread 0 cs else c ∷ spread ((column + columns c) % 8) cs

-- the values of the characters, where each space has that of its tab
abbrev pub spread_values : {X : Type 0} → ℕ → List ℕ → List X → List X
spread_values column [] xs = []
spread_values column (c ∷ cs) [] = []
spread_values column (c ∷ cs) (x ∷ xs) =
    if c == 0x09 then replicate (tab_columns column) x ++ spread_values 0 cs xs else x ∷ spread_values ((column + columns c) % 8) cs xs
