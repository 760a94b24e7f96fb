use Rattle.bidi_base.proofs.Common.{◌≡◌, ℕ, ◌+◌, ◌≤◌, ◌++◌, List, map, length}
use Rattle.bidi_unicode.specs.Unicode.{unicode_source}
use Rattle.bidi_controls.specs.declared.check.Sought.{Sought}
use Rattle.bidi_controls.specs.Decoded.{utf8_decoded}
use Rattle.bidi_controls.specs.FileLines.{file_lines_of}
use Rattle.bidi_controls.specs.FileSearch.{FoundAt, line_of, found_from}
use Rattle.bidi_controls.proofs.file_search.FileSearch.push_each_line.Given as goal

-- what is found in all lines is what is found so far and what is found in the rest
pub record IsSearched (sought : Sought) (start lines : ℕ) (bytes rest : List ℕ) (before found : List FoundAt) : Type 0 where
  pub all : found ++ found_from unicode_source sought (lines + 1) (file_lines_of (utf8_decoded rest))
      ≡ before ++ found_from unicode_source sought (start + 1) (file_lines_of (utf8_decoded bytes))
  pub count : lines + length (file_lines_of (utf8_decoded rest)) ≡ start + length (file_lines_of (utf8_decoded bytes))
  pub few : lines + length rest ≤ start + length bytes

abbrev pub invariant-loop-rest : goal.invariant-loop-rest
invariant-loop-rest l =
    IsSearched l.fn.self.sought l.fn.self.lines l.self.lines l.bytes l.rest (map line_of l.fn.found.items) (map line_of l.found.items)
    × (l.self.sought ≡ l.fn.self.sought) × (l.self.offset ≡ l.fn.self.offset) × (l.self.invalid ≡ l.fn.self.invalid)

abbrev pub decreases-loop-rest : goal.decreases-loop-rest
decreases-loop-rest l = length l.rest
