-- L1 over the units of a line is L1 over its characters.
use Rattle.bidi_base.proofs.Common.{◌≡◌, ℕ, zero, suc, ◌-◌, ◌≤◌, if◌then◌else◌, Bool, List, [], ◌∷◌, ◌++◌, length, take, drop, refl, ap₂, ◌∙◌, arith, append_assoc, length-drop, slice_range}
use Rattle.bidi_base.proofs.Common.{list_any, or-false, drop-drop, take-append-drop, nil_from_length, list_any-append, is_removed, is_reset, line_levels_after, line_levels, levels_with_line}
use Rattle.bidi_base.proofs.Common.{unit_index, per_unit, char_index, IsLine, length-take-le, replicate}
use Rattle.bidi_base.specs.declared.char_data.BidiClass.{BidiClass}
use Rattle.bidi_base.proofs.TextLemmas.{HasUnits}
use Rattle.bidi_base.proofs.UnitIndexLemmas.{unit_index-sum, line_unit_indexes, IsLineAt}
use Rattle.bidi_base.proofs.PerUnit.{take-per_unit, drop-per_unit, per_unit-append}
use Rattle.bidi_lines.proofs.LineInText.{length-part}
use Rattle.bidi_lines.proofs.LineLevels.{length-line_levels}

-- a character's units are reset if its first one is
is_reset-units : (n : ℕ) (c : BidiClass) (after : List BidiClass) → 1 ≤ n → is_reset (replicate n c ++ after) ≡ is_reset (c ∷ after)
is_reset-units zero c after some = absurd (omega arith)
is_reset-units (suc zero) c after some = refl
is_reset-units (suc (suc n)) c after some = simp (is_reset-units (suc n) c after (omega arith)) (grind arith)

is_reset-per_unit : (len_of : ℕ → ℕ) → HasUnits len_of → (chars : List ℕ) (classes : List BidiClass) → length classes ≡ length chars → is_reset (per_unit len_of chars classes) ≡ is_reset classes
is_reset-per_unit len_of h [] classes e = simp (nil_from_length classes (omega arith))
is_reset-per_unit len_of h (c ∷ chars) [] e = absurd (omega arith)
is_reset-per_unit len_of h (c ∷ chars) (k ∷ classes) e =
    simp (is_reset-units (len_of c) k (per_unit len_of chars classes) (h c), is_reset-per_unit len_of h chars classes (omega arith))

-- the level that a character takes, where `reset` says whether it is reset
abbrev new_level : ℕ → ℕ → Bool → BidiClass → ℕ → ℕ
new_level level before reset c own = if reset then level else if is_removed c then before else own

new_level-again : (level before own : ℕ) (reset removed : Bool)
    → (if reset then level else if removed then (if reset then level else if removed then before else own) else own) ≡ (if reset then level else if removed then before else own)
new_level-again level before own reset removed = grind arith

-- each unit of a character takes the same level
line_levels_after-units : (level before n : ℕ) (c : BidiClass) (own : ℕ) (classes : List BidiClass) (levels : List ℕ) → 1 ≤ n
    → line_levels_after level before (replicate n c ++ classes) (replicate n own ++ levels)
    ≡ replicate n (new_level level before (is_reset (c ∷ classes)) c own) ++ line_levels_after level (new_level level before (is_reset (c ∷ classes)) c own) classes levels
unfolding line_levels_after
line_levels_after-units level before zero c own classes levels some = absurd (omega arith)
line_levels_after-units level before (suc zero) c own classes levels some = refl
line_levels_after-units level before (suc (suc n)) c own classes levels some =
    let rest = line_levels_after-units level (new_level level before (is_reset (c ∷ classes)) c own) (suc n) c own classes levels (omega arith) in
    simp (is_reset-units (suc (suc n)) c classes some, rest, new_level-again)

module _ (len_of : ℕ → ℕ) (h : HasUnits len_of) where
  line_levels_after-per_unit : (level before : ℕ) (chars : List ℕ) (classes : List BidiClass) (levels : List ℕ) → length classes ≡ length chars → length levels ≡ length chars
      → line_levels_after level before (per_unit len_of chars classes) (per_unit len_of chars levels) ≡ per_unit len_of chars (line_levels_after level before classes levels)
  unfolding line_levels_after
  line_levels_after-per_unit level before [] classes levels e f = refl
  line_levels_after-per_unit level before (c ∷ chars) [] levels e f = refl
  line_levels_after-per_unit level before (c ∷ chars) (k ∷ classes) [] e f = absurd (omega arith)
  line_levels_after-per_unit level before (c ∷ chars) (k ∷ classes) (own ∷ levels) e f =
      grind (arith, line_levels_after-units, is_reset-per_unit, line_levels_after-per_unit level (new_level level before (is_reset (k ∷ classes)) k own) chars classes levels)

  -- L1 over the units of a line is L1 over its characters
  pub line_levels-per_unit : (level : ℕ) (chars : List ℕ) (classes : List BidiClass) (levels : List ℕ) → length classes ≡ length chars → length levels ≡ length chars
      → line_levels level (per_unit len_of chars classes) (per_unit len_of chars levels) ≡ per_unit len_of chars (line_levels level classes levels)
  unfolding line_levels
  line_levels-per_unit level chars classes levels e f = grind (arith, line_levels_after-per_unit)

-- the units of the characters i up to j
pub slice_range-per_unit : {X : Type 0} (len_of : ℕ → ℕ) (chars : List ℕ) (values : List X) (i j : ℕ) → i ≤ j → j ≤ length chars → length values ≡ length chars
    → slice_range (per_unit len_of chars values) (unit_index len_of chars i) (unit_index len_of chars j) ≡ per_unit len_of (slice_range chars i j) (slice_range values i j)
slice_range-per_unit len_of chars values i j order within long =
    grind (
      arith,
      unit_index-sum len_of chars i j,
      drop-per_unit len_of chars values i,
      take-per_unit len_of (drop i chars) (drop i values) (j - i),
      length-drop,
    )

-- a test over units is the test over characters
list_any-units : {X : Type 0} (test : X → Bool) (v : X) (n : ℕ) → 1 ≤ n → list_any test (replicate n v) ≡ test v
list_any-units test v zero some = absurd (omega arith)
list_any-units test v (suc zero) some = simp or-false
list_any-units test v (suc (suc n)) some = grind (arith, list_any-units test v (suc n))

pub list_any-per_unit : {X : Type 0} (test : X → Bool) (len_of : ℕ → ℕ) → HasUnits len_of → (chars : List ℕ) (values : List X)
    → length values ≡ length chars → list_any test (per_unit len_of chars values) ≡ list_any test values
list_any-per_unit test len_of h [] values e = simp (nil_from_length values (omega arith))
list_any-per_unit test len_of h (c ∷ chars) [] e = absurd (omega arith)
list_any-per_unit test len_of h (c ∷ chars) (v ∷ values) e = grind (arith, list_any-append, list_any-units test v, list_any-per_unit test len_of h chars values)

-- the levels of the whole text, one for each code unit, are those of its characters
pub levels_with_line-per_unit : (len_of : ℕ → ℕ) → HasUnits len_of → (level : ℕ) (chars : List ℕ) (classes : List BidiClass) (levels : List ℕ) (start end : ℕ)
    → length classes ≡ length chars → length levels ≡ length chars → IsLine len_of chars start end
    → levels_with_line level (per_unit len_of chars classes) (per_unit len_of chars levels) start end
    ≡ per_unit len_of chars (levels_with_line level classes levels (char_index len_of chars start) (char_index len_of chars end))
unfolding levels_with_line
levels_with_line-per_unit len_of h level chars classes levels start end e f line =
    let w : IsLineAt len_of chars start end (char_index len_of chars start) (char_index len_of chars end) = line_unit_indexes len_of h chars start end line in
    ap₂ (levels_with_line level (per_unit len_of chars classes) (per_unit len_of chars levels)) w.begins w.ends
    ∙ at_indexes (char_index len_of chars start) (char_index len_of chars end) w.ordered w.within
  where
    at_indexes : (i j : ℕ) → i ≤ j → j ≤ length chars
        → levels_with_line level (per_unit len_of chars classes) (per_unit len_of chars levels) (unit_index len_of chars i) (unit_index len_of chars j) ≡ per_unit len_of chars (levels_with_line level classes levels i j)
    at_indexes i j order within =
        let three : take i chars ++ (slice_range chars i j ++ drop j chars) ≡ chars = grind (
          arith,
          take-append-drop i chars,
          take-append-drop (j - i) (drop i chars),
          drop-drop (j - i) i chars,
        ) in
        let line : List ℕ = line_levels level (slice_range classes i j) (slice_range levels i j) in
        let long : length line ≡ j - i = grind (arith, length-line_levels, length-part) in
        let own = line_levels-per_unit len_of h level (slice_range chars i j) (slice_range classes i j) (slice_range levels i j) (grind (arith, length-part)) (grind (arith, length-part)) in
        let join = per_unit-append len_of (slice_range chars i j) (drop j chars) line (drop j levels) (grind (arith, long, length-part)) in
        let join_front = per_unit-append len_of (take i chars) (slice_range chars i j ++ drop j chars) (take i levels) (line ++ drop j levels) (grind (arith, length-take-le)) in
        simp (
          append_assoc,
          take-per_unit len_of chars levels i f,
          drop-per_unit len_of chars levels j f,
          slice_range-per_unit len_of chars classes i j order within e,
          slice_range-per_unit len_of chars levels i j order within f,
          own,
          ← join,
          ← join_front,
          three,
        )
