-- Level runs as a pass over the characters cuts them: what has ended, and where the run that is open began.
use Rattle.bidi_base.proofs.Common.{◌≡◌, ℕ, ◌+◌, ◌<◌, true, false, cond, List, [], ◌∷◌, ◌++◌, length, Option, Some, None, refl, ◌∙◌, arith, append-nil, common_steps, filter, range_with_len}
use Rattle.bidi_base.proofs.Common.{reverse-append, map-append, filter-append, indexes, is_kept_at, kept_before, level_at, begins_run, run_starts, unit_index, text_len, ranges_between}
use Rattle.bidi_base.proofs.Common.{level_run_ranges, option_map}
use Rattle.bidi_base.specs.declared.char_data.BidiClass.{BidiClass}
use Rattle.bidi_base.proofs.PlacesLemmas.{range_with_len-more}
use Rattle.bidi_explicit.specs.RunCutting.{IsCutTo, differs, runs_before, run_start}

-- one more cut
pub ranges_between-push : (x : ℕ) (xs : List ℕ) (y end : ℕ) → ranges_between (x ∷ xs ++ y ∷ []) end ≡ ranges_between (x ∷ xs) y ++ (y, end) ∷ []
ranges_between-push x [] y end = refl
ranges_between-push x (z ∷ xs) y end = simp (ranges_between-push z xs y end)

-- the kept character before the next place
kept_before-more : (classes : List BidiClass) (k : ℕ) → kept_before classes (k + 1) ≡ cond (is_kept_at classes k) (Some k) (kept_before classes k)
unfolding kept_before
kept_before-more classes k = grind (arith, range_with_len-more 0 k, reverse-append) steps 400000

pub run_starts-some : (classes : List BidiClass) (levels : List ℕ) → 0 < length classes → run_starts classes levels ≡ 0 ∷ filter (begins_run classes levels) (indexes classes)
unfolding run_starts
run_starts-some classes levels some = grind arith

pub run_starts-none : (classes : List BidiClass) (levels : List ℕ) → length classes ≡ 0 → run_starts classes levels ≡ []
unfolding run_starts
run_starts-none classes levels none = grind arith

no_begin : (classes : List BidiClass) (levels : List ℕ) (k : ℕ) → is_kept_at classes k ≡ false → begins_run classes levels k ≡ false
unfolding begins_run
no_begin classes levels k gone = grind arith steps 400000

-- a kept character begins a run if its level is another than that of the kept one before it
begin_by_level : (classes : List BidiClass) (levels : List ℕ) (k : ℕ) → is_kept_at classes k ≡ true
    → begins_run classes levels k ≡ differs (option_map (level_at levels) (kept_before classes k)) (level_at levels k)
unfolding begins_run
begin_by_level classes levels k kept = grind arith

module _ (len_of : ℕ → ℕ) (chars : List ℕ) (stored : List BidiClass) (levels : List ℕ) where
  abbrev starts_below : ℕ → List ℕ
  starts_below k = filter (begins_run stored levels) (range_with_len 0 k)

  pub IsCutTo-start : IsCutTo len_of chars stored levels 0 [] 0 None
  unfolding kept_before
  IsCutTo-start = grind arith steps 400000

  starts_more : (k : ℕ) → starts_below (k + 1) ≡ starts_below k ++ cond (begins_run stored levels k) (k ∷ []) []
  starts_more k = grind (arith, range_with_len-more 0 k, filter-append)

  starts_same : (k : ℕ) → begins_run stored levels k ≡ false → starts_below (k + 1) ≡ starts_below k
  starts_same k none = grind (arith, starts_more, append-nil) steps 400000

  -- what X9 removes goes with the run that is open
  pub IsCutTo-removed : (k : ℕ) (runs : List (ℕ × ℕ)) (from : ℕ) (last : Option ℕ) → is_kept_at stored k ≡ false
      → IsCutTo len_of chars stored levels k runs from last → IsCutTo len_of chars stored levels (k + 1) runs from last
  IsCutTo-removed k runs from last gone h = grind (arith, kept_before-more, starts_same, no_begin)

  pub IsCutTo-kept : (k : ℕ) (runs : List (ℕ × ℕ)) (from : ℕ) (last : Option ℕ) (level : ℕ) → is_kept_at stored k ≡ true
      → level ≡ level_at levels k → IsCutTo len_of chars stored levels k runs from last
      → IsCutTo len_of chars stored levels (k + 1) (runs_before last level from (unit_index len_of chars k) runs) (run_start last level from (unit_index len_of chars k)) (Some level)
  IsCutTo-kept k runs from last level kept level_is h =
      grind (arith, kept_before-more, begin_by_level, starts_same, ranges_between-push, map-append, starts_more) steps 400000

  -- the end of the text ends the last run
  pub IsCutTo-end : (k : ℕ) (runs : List (ℕ × ℕ)) (from : ℕ) (last : Option ℕ) → k ≡ length stored → 0 < length stored
      → IsCutTo len_of chars stored levels k runs from last
      → runs ++ (from, text_len len_of chars) ∷ [] ≡ level_run_ranges len_of chars stored levels
  unfolding level_run_ranges
  IsCutTo-end k runs from last all some h = grind (arith, run_starts-some)

  none_of : (runs : List (ℕ × ℕ)) (r s : ℕ × ℕ) → runs ++ r ∷ [] ≡ s ∷ [] → runs ≡ []
  none_of runs r s e = grind (arith, common_steps)

  -- where there is no character there is no run
  pub IsCutTo-none : (k : ℕ) (runs : List (ℕ × ℕ)) (from : ℕ) (last : Option ℕ) → k ≡ length stored → length stored ≡ 0
      → IsCutTo len_of chars stored levels k runs from last → runs ≡ level_run_ranges len_of chars stored levels
  unfolding level_run_ranges
  IsCutTo-none k runs from last all none h =
      let zero_is : k ≡ 0 = all ∙ none in
      simp (none_of runs (from, 0) (unit_index len_of chars 0, 0) (h.cut 0 ∙ simp zero_is), run_starts-none stored levels none)
