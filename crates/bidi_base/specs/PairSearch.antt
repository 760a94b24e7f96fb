-- The search for bracket pairs (BD16) over the brackets of a sequence alone, with a stack of opening brackets, each with
-- the index of its pair in the list of pairs.
use Rattle.std.specs.Prelude.{◌≡◌, ℕ, ◌<◌, ◌≤◌, Bool, true, false, nat_lt, ◌==◌, List, [], ◌++◌, map, length, drop, filter, fold, find, Option, Some, None, option_map, unwrap_or, All}
use Rattle.std.specs.List.{range_with_len}
use Rattle.bidi_base.specs.declared.data_source.BidiMatchedOpeningBracket.{BidiMatchedOpeningBracket}
use Rattle.bidi_base.specs.declared.brackets.Bracket.{Bracket}
use Rattle.bidi_base.specs.declared.brackets.PairSearch.{PairSearch}
use Rattle.bidi_base.specs.declared.brackets.Waiting.{Waiting}
use Rattle.bidi_base.specs.Brackets.{max_open_brackets, bracket_at, is_opening, available, with_closing, pairs_of}
use Rattle.bidi_base.specs.FoundBrackets.{brackets_from}

-- the pairs that are closed before j
abbrev pub closed_before : List (Option BidiMatchedOpeningBracket) → ℕ → List (ℕ × ℕ)
closed_before brackets j = fold (with_closing brackets) [] (range_with_len 0 j)

-- the closing bracket of the opening bracket at i, if it has a pair
abbrev pub closing_in : List (ℕ × ℕ) → ℕ → Option ℕ
closing_in pairs i = option_map (λ (p : ℕ × ℕ). p.1) (find (λ (p : ℕ × ℕ). p.0 == i) pairs)

abbrev pub opening_of : Option BidiMatchedOpeningBracket → ℕ
opening_of None = 0
opening_of (Some b) = b.opening

-- the search has read the brackets before j: the stack has the opening brackets that wait at j, and had room for each
pub record IsUnderWay (brackets : List (Option BidiMatchedOpeningBracket)) (j : ℕ) (waiting : List ℕ) : Type 0 where
  pub waits : waiting ≡ available brackets (closed_before brackets j) j
  pub room : (k : ℕ) → k < j → is_opening (bracket_at brackets k) ≡ true
      → length (available brackets (closed_before brackets k) k) < max_open_brackets

-- i is an opening bracket; the opening brackets before j
abbrev pub opens : List (Option BidiMatchedOpeningBracket) → ℕ → Bool
opens counted i = is_opening (bracket_at counted i)

abbrev pub openings : List (Option BidiMatchedOpeningBracket) → ℕ → List ℕ
openings counted j = filter (opens counted) (range_with_len 0 j)

-- the pair that begins at i, or i with itself as long as it has no closing bracket
abbrev pub pair_at : List (ℕ × ℕ) → ℕ → ℕ × ℕ
pair_at pairs i = (i, unwrap_or (closing_in pairs i) i)

-- the stack's entry for the opening bracket at i
abbrev pub entry_of : List (Option BidiMatchedOpeningBracket) → ℕ → Waiting
entry_of counted i = record { opening = opening_of (bracket_at counted i); pair = length (openings counted i) }

-- the search has read the brackets before j
pub record IsPairing (counted : List (Option BidiMatchedOpeningBracket)) (slots : List (ℕ × ℕ))
    (waiting : List Waiting) (j : ℕ) : Type 0 where
  pub places : List ℕ
  pub under_way : IsUnderWay counted j places
  pub entries : waiting ≡ map (entry_of counted) places
  pub found : slots ≡ map (pair_at (closed_before counted j)) (openings counted j)
  pub inside : j ≤ length counted

-- the search has read the brackets before some index, and these brackets are still to come
pub record IsAt (counted : List (Option BidiMatchedOpeningBracket)) (slots : List (ℕ × ℕ)) (waiting : List Waiting)
    (rest : List Bracket) : Type 0 where
  pub place : ℕ
  pub pairing : IsPairing counted slots waiting place
  pub left : rest ≡ brackets_from place (drop place counted)

-- each entry has the index of a pair in a list of n pairs
abbrev pub AreWithin : ℕ → List Waiting → Type 0
AreWithin n waiting = All (λ (e : Waiting). e.pair < n) waiting

-- the pairs after all brackets are read: those that have a closing bracket
abbrev pub closed_slots : List (ℕ × ℕ) → List (ℕ × ℕ)
closed_slots slots = filter (λ p. nat_lt p.0 p.1) slots

-- a search that has read these brackets, whatever comes after them
pub record HasRead (s : PairSearch) (read : List Bracket) : Type 0 where
  pub within : AreWithin (length s.pairs.items) s.waiting.items
  pub goes_on : s.is_over ≡ false → (counted : List (Option BidiMatchedOpeningBracket)) (rest : List Bracket)
      → read ++ rest ≡ brackets_from 0 counted → IsAt counted s.pairs.items s.waiting.items rest
  pub ended : s.is_over ≡ true → (counted : List (Option BidiMatchedOpeningBracket)) (rest : List Bracket)
      → read ++ rest ≡ brackets_from 0 counted → closed_slots s.pairs.items ≡ pairs_of counted
