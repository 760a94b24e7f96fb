-- A level run as a range of units: which characters stand in it, and what its last kept unit says.
use Rattle.bidi_base.proofs.Common.{◌≡◌, ℕ, ◌+◌, ◌-◌, ◌<◌, ◌≤◌, true, false, List, [], ◌∷◌, ◌++◌, length, get_or, sym, ap, ◌∙◌, arith, inl, inr, cases_lt, both_ways}
use Rattle.bidi_base.proofs.Common.{is_kept, class_at, is_kept_at, level_at, run_starts}
use Rattle.bidi_base.proofs.TextUnitIndexes.{unit_index-more, unit_index-mono, unit_index-lt, unit_index-le, unit_of, get_or-per_unit, get_or-per_unit-unit_index}
use Rattle.bidi_base.specs.Texts.{Encoding, Text, unit_index, text_len, per_unit, level_run_ranges}
use Rattle.std.proofs.Math.Numerals.{add-one}
use Rattle.bidi_base.specs.declared.char_data.BidiClass.{BidiClass}
use Rattle.bidi_base.specs.declared.char_data.BidiClass.TheVariants.{L}
use Rattle.bidi_base.proofs.UnitIndexLemmas.{UnitOf}
use Rattle.bidi_laws.proofs.RunsLemmas.{IsLevelRun}
use Rattle.bidi_base.specs.Search.{IsEndOfLast}
use Rattle.bidi_explicit.proofs.LevelRunLemmas.{IsLevelRun-at, level_run_ranges-at, length-level_run_ranges}

-- where level runs begin, and the end
abbrev pub cuts : List BidiClass → List ℕ → List ℕ
cuts classes levels = run_starts classes levels ++ length classes ∷ []

-- no character from a up to b is kept
abbrev pub NoneKept : List BidiClass → ℕ → ℕ → Type 0
NoneKept classes a b = (m : ℕ) → a ≤ m → m < b → is_kept_at classes m ≡ false

-- l is the last kept one
pub record IsLast (classes : List BidiClass) (a b l : ℕ) : Type 0 where
  pub from : a ≤ l
  pub below : l < b
  pub kept : is_kept_at classes l ≡ true
  pub none : NoneKept classes (l + 1) b

module _ {encoding : Encoding} (text : Text encoding) (classes : List BidiClass) (levels : List ℕ) (long : length classes ≡ length text.chars) where
  -- the k-th run, from the character at a up to that at b
  pub record IsRunAt (k a b : ℕ) (r : ℕ × ℕ) : Type 0 where
    pub range : IsLevelRun classes levels a b
    pub first : a ≡ get_or (cuts classes levels) k 0
    pub next : b ≡ get_or (cuts classes levels) (k + 1) 0
    pub start : r.0 ≡ unit_index text a
    pub end : r.1 ≡ unit_index text b

  pub run_at : (runs : List (ℕ × ℕ)) (k : ℕ) → runs ≡ level_run_ranges text classes levels → k < length runs
      → IsRunAt k (get_or (cuts classes levels) k 0) (get_or (cuts classes levels) (k + 1) 0) (get_or runs k (0, 0))
  run_at runs k e within =
      let fits : k < length (run_starts classes levels) = omega (arith, ap length e, length-level_run_ranges text classes levels) in
      grind (
        arith,
        level_run_ranges-at text classes levels k (0, 0) long fits,
        IsLevelRun-at classes levels k fits,
        add-one k,
      )

  -- a run is a stretch of some units of the text
  pub record IsUnitRun (a b : ℕ) (start end : ℕ) : Type 0 where
    pub not_empty : start < end
    pub within : end ≤ text_len text

  pub unit_run : (k a b : ℕ) (r : ℕ × ℕ) → IsRunAt k a b r → IsUnitRun a b r.0 r.1
  unit_run k a b r run = grind (arith, unit_index-lt, unit_index-le)

  module _ (units : List BidiClass) (unit_levels : List ℕ) (same : length levels ≡ length text.chars) (units_is : units ≡ per_unit text classes)
      (levels_is : unit_levels ≡ per_unit text levels) where
    pub class_of_unit : (m : ℕ) → m < length text.chars → get_or units (unit_index text m) L ≡ class_at classes m
    class_of_unit m fits = ap (λ us. get_or us (unit_index text m) L) units_is ∙ get_or-per_unit-unit_index text classes m L long fits

    pub level_of_unit : (m : ℕ) → m < length text.chars → get_or unit_levels (unit_index text m) 0 ≡ level_at levels m
    level_of_unit m fits = ap (λ us. get_or us (unit_index text m) 0) levels_is ∙ get_or-per_unit-unit_index text levels m 0 same fits

    -- what is before `last`, the end of the last kept unit of the run
    pub record IsLastUnit (a b last l : ℕ) : Type 0 where
      pub is_last : IsLast classes a b l
      pub at_end : last ≡ unit_index text (l + 1)
      pub class : get_or units (last - 1) L ≡ class_at classes l
      pub level : get_or unit_levels (last - 1) 0 ≡ level_at levels l

    pub none_kept : (a b start end last : ℕ) → start ≡ unit_index text a → end ≡ unit_index text b → b ≤ length text.chars → IsEndOfLast (is_kept_at units) start end last → last ≡ start → NoneKept classes a b
    none_kept a b start end last first next fits e none m from below =
        ap is_kept (sym (class_of_unit m (omega arith))) ∙ e.after (unit_index text m) (omega (arith, unit_index-mono text a m from)) (omega (arith, unit_index-lt text m b below (omega arith)))

    pub last_unit : (a b start end last : ℕ) → start ≡ unit_index text a → end ≡ unit_index text b → b ≤ length text.chars
        → IsEndOfLast (is_kept_at units) start end last → ¬ (last ≡ start) → (l : ℕ) × IsLastUnit a b last l
    last_unit a b start end last first next fits e some = by_unit (unit_of text (last - 1) (omega (
      arith,
      e.begins,
      e.ends,
      unit_index-le text b,
      next,
    )))
      where
        by_unit : UnitOf encoding.len_of text.chars (last - 1) → (l : ℕ) × IsLastUnit a b last l
        by_unit w = (w.index, record { is_last = record { from = from; below = below; kept = kept; none = none }; at_end = at_end; class = class; level = level })
          where
            after : unit_index text (w.index + 1) ≡ unit_index text w.index + encoding.len_of (get_or text.chars w.index 0)
            after = unit_index-more text w.index 0 w.within

            unit_is : last ≡ unit_index text w.index + w.offset + 1
            unit_is = omega (arith, w.at_place, e.begins)

            from : a ≤ w.index
            from = grind (arith, w.below, after, unit_is, unit_index-mono)

            below : w.index < b
            below = grind (arith, unit_is, e.ends, unit_index-mono)

            class : get_or units (last - 1) L ≡ class_at classes w.index
            class = simp (units_is, w.at_place, get_or-per_unit text classes w.index w.offset 0 L long w.within w.below)

            level : get_or unit_levels (last - 1) 0 ≡ level_at levels w.index
            level = simp (levels_is, w.at_place, get_or-per_unit text levels w.index w.offset 0 0 same w.within w.below)

            kept : is_kept_at classes w.index ≡ true
            kept = ap is_kept (sym class) ∙ e.before (last - 1) (omega (arith, e.begins)) (omega (arith, e.begins))

            -- no unit of the character is left after it
            at_end : last ≡ unit_index text (w.index + 1)
            at_end = elim (cases_lt (w.offset + 1) (encoding.len_of (get_or text.chars w.index 0))) [
              | inl inside ↦
                  let there : last ≡ unit_index text w.index + (w.offset + 1) = omega (arith, unit_is) in
                  let same_class : get_or units last L ≡ class_at classes w.index = simp (units_is, there, get_or-per_unit text classes w.index (w.offset + 1) 0 L long w.within inside) in
                  absurd (both_ways (is_kept_at classes w.index) (ap is_kept (sym same_class) ∙ e.after last (omega arith) (omega (arith, after, next, unit_index-mono text (w.index + 1) b (omega (arith, below))))) kept)
              | inr out ↦ omega (arith, unit_is, after, w.below)
            ]

            none : NoneKept classes (w.index + 1) b
            none m low high =
                ap is_kept (sym (class_of_unit m (omega arith)))
                ∙ e.after (unit_index text m) (omega (arith, at_end, unit_index-mono text (w.index + 1) m low)) (omega (arith, next, unit_index-lt text m b high (omega arith)))
