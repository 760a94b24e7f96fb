-- Where a text is cut into lines of at most so many columns: after white space if it can, and never in a cluster.
use Rattle.std.specs.Prelude.{ℕ, zero, suc, ◌+◌, ◌-◌, nat_le, nat_lt, ◌||◌, if◌then◌else◌, List, [], ◌∷◌, length, drop, max, get_or, take_while, slice_get, option_map, unwrap_or, false}
use Rattle.bidi_base.specs.Display.{Run}
use Rattle.bidi_base.specs.Source.{Source}
use Rattle.bidi_shown.specs.Clusters.{clusters_of, tab_columns}
use Rattle.bidi_shown.specs.declared.breaks.LineLength.{LineLength}
use Rattle.bidi_shown.specs.declared.cluster.Cluster.{Cluster}

-- the column after a cluster that begins at this column
abbrev pub column_after : ℕ → Cluster → ℕ
column_after column k = column + (if k.is_tab then tab_columns column else k.width)

-- how many clusters from the front end within the limit, if the first begins at this column
abbrev pub fitting : ℕ → ℕ → List Cluster → ℕ
fitting limit column [] = 0
fitting limit column (k ∷ ks) =
    if nat_le (column_after column k) limit then fitting limit (column_after column k) ks + 1 else 0

-- how many clusters there are up to the last white space among the first n, this included; 0 if there is none
abbrev pub up_to_space : List Cluster → ℕ → ℕ
up_to_space ks zero = 0
up_to_space ks (suc n) = if unwrap_or (option_map (λ k. k.is_space) (slice_get ks n)) false then suc n else up_to_space ks n

-- how many clusters are white space before the first other one
abbrev pub leading_spaces : List Cluster → ℕ
leading_spaces ks = length (take_while (λ k. k.is_space) ks)

-- the line of those clusters that fit, or of one if none does. The white space that follows is left out
abbrev pub whole_line : ℕ → List Cluster → LineLength
whole_line fit ks = record { shown = fit; taken = fit + leading_spaces (drop fit ks) }

-- the line up to the last white space among those that fit, if there is one
abbrev pub cut_line : ℕ → ℕ → LineLength
cut_line zero fit = record { shown = fit; taken = fit }
cut_line (suc n) fit = record { shown = suc n; taken = suc n }

-- the first line: as many clusters as fit, if the text or a word ends there, else those up to the last white space
abbrev pub line_of_fitting : ℕ → List Cluster → LineLength
line_of_fitting fit ks =
    if nat_le (length ks) fit || nat_lt 0 (leading_spaces (drop fit ks)) then whole_line fit ks
    else cut_line (up_to_space ks fit) fit

abbrev pub first_line : ℕ → List Cluster → LineLength
first_line limit ks = line_of_fitting (max 1 (fitting limit 0 ks)) ks

-- the bytes of a line, by its start and its end
abbrev pub line_range : LineLength → List Cluster → Run
line_range line [] = (0, 0)
line_range line (k ∷ ks) = (k.start, (get_or (k ∷ ks) (line.shown - 1) k).end)

-- the lines of these clusters, at most n
abbrev pub lines_up_to : ℕ → ℕ → List Cluster → List Run
lines_up_to limit zero ks = []
lines_up_to limit (suc n) [] = []
lines_up_to limit (suc n) (k ∷ ks) =
    let line = first_line limit (k ∷ ks) in
    line_range line (k ∷ ks) ∷ lines_up_to limit n (drop line.taken (k ∷ ks))

-- the lines of these clusters
unfoldable pub lines_of : ℕ → List Cluster → List Run
lines_of limit ks = lines_up_to limit (length ks) ks

-- the lines of a text, as ranges of its bytes; an empty text is one empty line
abbrev pub or_empty : List Run → List Run
or_empty [] = (0, 0) ∷ []
or_empty (line ∷ lines) = line ∷ lines

unfoldable pub lines_of_text : Source → ℕ → List ℕ → List Run
lines_of_text source limit text = or_empty (lines_of limit (clusters_of source text))
