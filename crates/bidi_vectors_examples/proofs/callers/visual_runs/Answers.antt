use Rattle.bidi_base.proofs.Common.{◌≡◌, ◌<◌, ◌≤◌, ◌+◌, ◌-◌, ◌++◌, [], ◌∷◌, ℕ, List, map, take, get_or, get_or_default, slice_range, length, run_of, Run, Range, arith, common_steps, map-map}
use Rattle.bidi_text.proofs.StrLemmas.{IsCharBoundary-from_is_boundary}
use Rattle.bidi_vectors_examples.specs.Runs.{text_and_level}
use Rattle.bidi_vectors_examples.proofs.Parts.{part_at}
use Rattle.bidi_vectors_examples.proofs.callers.visual_runs.Goals as goal

-- the text and the level of a range
abbrev shown_at : List ℕ → ℕ → List ℕ → Range ℕ → List ℕ × ℕ
shown_at text from levels range = text_and_level text from levels (run_of range)

shown_at-is : (text levels : List ℕ) (from : ℕ) (range : Range ℕ) (part : List ℕ) (number level : ℕ) → part ≡ slice_range text range.start range.end → number ≡ level
    → level ≡ get_or levels (range.start - from) level → range.start - from < length levels → (part, number) ≡ shown_at text from levels range
shown_at-is text levels from range part number level is same at within = grind (arith, get_or_default)

-- after one more run
one_more : {A : Type 0} (view : A → List ℕ × ℕ) (text levels : List ℕ) (from : ℕ) (slice : List (Range ℕ)) (k : ℕ) (d : Range ℕ) (shown more : List A) (x : A)
    → map view shown ≡ map (shown_at text from levels) (take k slice) → k < length slice → more ≡ shown ++ x ∷ [] → view x ≡ shown_at text from levels (get_or slice k d)
    → map view more ≡ map (shown_at text from levels) (take (k + 1) slice)
one_more view text levels from slice k d shown more x so_far within is at = grind (arith, common_steps)

-- after the last run
all_shown : (text own_text levels own_levels : List ℕ) (from : ℕ) (shown : List (List ℕ × ℕ)) (items slice : List (Range ℕ)) (runs : List Run) (k : ℕ)
    → shown ≡ map (shown_at text from levels) (take k slice) → text ≡ own_text → levels ≡ own_levels → slice ≡ items → length slice ≤ k → map run_of items ≡ runs
    → shown ≡ map (text_and_level own_text from own_levels) runs
all_shown text own_text levels own_levels from shown items slice runs k so_far t l same all are = grind (arith, common_steps, map-map)

pub overflow_sub-run : goal.overflow_sub-run
overflow_sub-run c =
    let part = part_at _ _ _ _ _ c.in_ok-line_runs.ensures.parts c.deref-run-items.ensures.value c.loop-run-test.true in
    part.begins

pub index-requires : goal.index-requires
index-requires c =
    let part = part_at _ _ _ _ _ c.in_ok-line_runs.ensures.parts c.deref-run-items.ensures.value c.loop-run-test.true in
    omega (arith, part.begins, part.not_empty, part.ends, c.in_ok-levels.ensures.one_per_unit)

pub range-requires : goal.range-requires
range-requires c =
    let line = (part_at _ _ _ _ _ c.in_ok-line_runs.ensures.parts c.deref-run-items.ensures.value c.loop-run-test.true).is_line in
    record {
      start_le_end = line.ordered;
      start_boundary = λ _. IsCharBoundary-from_is_boundary c.text-text.result.now _ c.text-text.utf8 (rw c.text-text.ensures line.begins);
      end_boundary = IsCharBoundary-from_is_boundary c.text-text.result.now _ c.text-text.utf8 (rw c.text-text.ensures line.ends);
    }

pub loop-run-preserved : goal.loop-run-preserved
loop-run-preserved c =
    let part = part_at _ _ _ _ _ c.in_ok-line_runs.ensures.parts c.deref-run-items.ensures.value c.loop-run-test.true in
    one_more (λ r. (r.0.now, r.1)) _ _ _ _ _ (record { start = 0; end = 0 }) _ _ _ c.loop-run.invariant c.loop-run-test.true c.in_ok-push.ensures.items
    (shown_at-is c.text-text.result.now c.in_ok-levels.levels.items c.args.line.start (get_or c.deref-run-items.result.now c.loop-run.run-index (record { start = 0; end = 0 })) _ _ _
    c.range.ensures.value c.number-level.ensures.number c.index.ensures (omega (arith, part.begins, part.not_empty, part.ends, c.in_ok-levels.ensures.one_per_unit)))

pub returns : goal.returns
returns c =
    all_shown _ _ _ _ _ _ _ _ _ _ c.loop-run.invariant c.text-text.ensures c.in_ok-levels.ensures.units c.deref-run-items.ensures.value c.loop-run-test.false c.in_ok-line_runs.ensures.runs.runs
