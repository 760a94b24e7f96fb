-- The row of marks that was written last: a bracket in it that has its direction already needs no writing.
use Rattle.bidi_base.proofs.Common.{◌≡◌, ℕ, ◌+◌, ◌<◌, ◌≤◌, true, List, length, get_or, arith, cases_lt, unit_index}
use Rattle.bidi_base.specs.declared.char_data.BidiClass.{BidiClass}
use Rattle.bidi_base.proofs.UnitIndexLemmas.{unit_index-mono, unit_index-more}
use Rattle.bidi_base.proofs.TextLemmas.{HasUnits}
use Rattle.bidi_rules.specs.PairPass.{IsRow, IsSet, IsSetUpTo}
use Rattle.bidi_rules.specs.declared.neutral.pairs.Row.{Row}
use Rattle.bidi_explicit.specs.SequenceUnits.{is_seen}

module _ (len_of : ℕ → ℕ) (chars : List ℕ) (runs : List (ℕ × ℕ)) (original_classes : List BidiClass) where
  pub IsRow-none : (classes : List BidiClass) (d : BidiClass) → IsRow len_of chars runs original_classes classes (record { from = 0; end = 0; direction = d })
  IsRow-none classes d = grind arith

  -- what is in the row is written as it is to be
  pub IsSet-held : HasUnits len_of → (classes : List BidiClass) (row : Row) (b k : ℕ) (d : BidiClass)
      → IsRow len_of chars runs original_classes classes row → row.from ≤ b → b < row.end → row.direction ≡ d → k < length chars → b ≡ unit_index len_of chars k
      → IsSet len_of chars runs original_classes d b (k + 1) classes classes
  IsSet-held h classes row b k d r from below same fits there =
      let next = unit_index-more len_of chars k 0 fits in
      let some = h (get_or chars k 0) in
      (row.end, (grind (arith, unit_index-mono), grind arith))

  -- what was written is the row
  pub IsRow-set : (old new : List BidiClass) (b k end : ℕ) (d : BidiClass) → b ≡ unit_index len_of chars k
      → IsSetUpTo len_of chars runs original_classes d b (k + 1) end old new
      → IsRow len_of chars runs original_classes new (record { from = b; end = end; direction = d })
  IsRow-set old new b k end d there set =
      let e = set.0 in
      let w = set.1 in
      let seen-before : (u : ℕ) → is_seen runs new u ≡ true → is_seen runs old u ≡ true = λ u seen. grind arith in
      record {
        written = λ u after inside seen. w.inside u after inside (seen-before u seen);
        marks = λ q after inside seen. e.marks q (grind (
          arith,
          cases_lt k q,
          unit_index-mono,
        )) inside (seen-before (unit_index len_of chars q) seen);
        stops = λ some less. grind arith;
        within = omega (arith, w.same_len, e.within);
      }
