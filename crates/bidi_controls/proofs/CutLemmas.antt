-- Lines of a list: where it is cut, and lists that are one line.
use Rattle.bidi_base.proofs.Common.{◌≡◌, ℕ, ◌<◌, true, false, List, [], ◌∷◌, ◌++◌, length, refl, arith, All, All-head, All-tail, onto_first, nat_tests}
use Rattle.bidi_controls.specs.FileLines.{is_break, ends_file_line, file_lines_of}

-- no element is one
abbrev pub HasNoBreak : List ℕ → Type 0
HasNoBreak cs = All (λ c. is_break c ≡ false) cs

ends-same : (c a : ℕ) (cs after : List ℕ) → ends_file_line c (cs ++ a ∷ after) ≡ ends_file_line c (cs ++ a ∷ [])
ends-same c a [] after = refl
ends-same c a (d ∷ cs) after = refl

some_line : (c : ℕ) (cs : List ℕ) → 0 < length (file_lines_of (c ∷ cs))
some_line c cs = grind arith

some_line-pushed : (a : ℕ) (cs : List ℕ) → 0 < length (file_lines_of (cs ++ a ∷ []))
some_line-pushed a [] = some_line a []
some_line-pushed a (c ∷ cs) = some_line c (cs ++ a ∷ [])

onto_first-append : (c : ℕ) (ls ms : List (List ℕ)) → 0 < length ls → onto_first c (ls ++ ms) ≡ onto_first c ls ++ ms
onto_first-append c [] ms some = absurd (omega arith)
onto_first-append c (l ∷ ls) ms some = refl

-- a list is cut after an element that ends a line
pub file_lines-append : (cs : List ℕ) (a : ℕ) (after : List ℕ) → ends_file_line a after ≡ true
    → file_lines_of (cs ++ a ∷ after) ≡ file_lines_of (cs ++ a ∷ []) ++ file_lines_of after
file_lines-append [] a after ends = grind arith
file_lines-append (c ∷ cs) a after ends =
    grind (arith, ends-same c a cs after, file_lines-append cs a after ends, onto_first-append c (file_lines_of (cs ++ a ∷ [])) (file_lines_of after), some_line-pushed a cs)

no_end : (c : ℕ) (after : List ℕ) → is_break c ≡ false → ends_file_line c after ≡ false
no_end c after h = grind (arith, nat_tests)

-- elements before a line are on it
pub file_lines-one : (cs line : List ℕ) → HasNoBreak cs → file_lines_of line ≡ line ∷ [] → file_lines_of (cs ++ line) ≡ (cs ++ line) ∷ []
file_lines-one [] line h one = one
file_lines-one (c ∷ cs) line h one =
    grind (arith, no_end c (cs ++ line) (All-head (λ d. is_break d ≡ false) c cs h), file_lines-one cs line (All-tail (λ d. is_break d ≡ false) c cs h) one)

-- a list with no end of a line is one
pub file_lines-whole : (cs : List ℕ) → HasNoBreak cs → 0 < length cs → file_lines_of cs ≡ cs ∷ []
file_lines-whole [] h some = absurd (omega arith)
file_lines-whole (c ∷ []) h some = grind arith
file_lines-whole (c ∷ d ∷ cs) h some =
    grind (arith, no_end c (d ∷ cs) (All-head (λ d. is_break d ≡ false) c (d ∷ cs) h), file_lines-whole (d ∷ cs) (All-tail (λ d. is_break d ≡ false) c (d ∷ cs) h) (omega arith))
