-- The brackets of a sequence that count (BD14, BD15), each with its index, as the code gathers them.
use Rattle.std.specs.Prelude.{◌≡◌, ℕ, ◌+◌, List, [], ◌∷◌, Option, Some, None}
use Rattle.bidi_base.specs.declared.char_data.BidiClass.{BidiClass}
use Rattle.bidi_base.specs.declared.data_source.BidiMatchedOpeningBracket.{BidiMatchedOpeningBracket}
use Rattle.bidi_base.specs.Brackets.{counted_brackets, bracket_pairs}
use Rattle.bidi_base.specs.declared.brackets.Bracket.{Bracket}

-- the brackets of a list that begins at the index k
abbrev pub brackets_from : ℕ → List (Option BidiMatchedOpeningBracket) → List Bracket
brackets_from k [] = []
brackets_from k (None ∷ brackets) = brackets_from (k + 1) brackets
brackets_from k (Some b ∷ brackets) =
    record { index = k; opening = b.opening; is_open = b.is_open } ∷ brackets_from (k + 1) brackets

-- the brackets of a sequence that count, from its classes after W7 and the brackets in the data source
unfoldable pub found_brackets : List BidiClass → List (Option BidiMatchedOpeningBracket) → List Bracket
found_brackets classes brackets = brackets_from 0 (counted_brackets classes brackets)

-- these are the pairs of every sequence in which exactly these brackets count
abbrev pub ArePairsOf : List Bracket → List (ℕ × ℕ) → Type 0
ArePairsOf found pairs =
    (classes : List BidiClass) (brackets : List (Option BidiMatchedOpeningBracket))
    → found ≡ found_brackets classes brackets → pairs ≡ bracket_pairs classes brackets
