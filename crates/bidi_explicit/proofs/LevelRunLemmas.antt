-- The level runs that cover a paragraph, one by one: as ranges of characters, and of units.
use Rattle.bidi_base.proofs.Common.{◌≡◌, ℕ, zero, suc, ◌+◌, ◌-◌, ◌<◌, ◌≤◌, true, false, List, [], ◌∷◌, ◌++◌, length, map, get_or, refl, sym, ap, arith, ◌⊎◌}
use Rattle.bidi_base.proofs.Common.{length-append, rules, filter, range_with_len, cases_Bool, map-append, get_or-map, length-map, indexes}
use Rattle.bidi_base.proofs.Common.{is_kept_at, begins_run, run_starts, ranges_between, chars_in_runs}
use Rattle.bidi_base.proofs.TextUnitIndexes.{unit_index-end, char_index-unit_index}
use Rattle.bidi_base.specs.Units as in_units
use Rattle.bidi_base.specs.Texts.{Encoding, Text, unit_index, text_len, level_run_ranges, kept_in_runs}
use Rattle.bidi_base.specs.declared.char_data.BidiClass.{BidiClass}
use Rattle.bidi_laws.proofs.SuccessorLemmas.{kept_before-is_None}
use Rattle.bidi_laws.proofs.RunsLemmas.{IsLevelRun}

-- the ranges between starts and an end, one by one
pub ranges_between-at : (starts : List ℕ) (end k : ℕ) (d : ℕ × ℕ) → k < length starts
    → get_or (ranges_between starts end) k d ≡ (get_or (starts ++ end ∷ []) k 0, get_or (starts ++ end ∷ []) (suc k) 0)
ranges_between-at [] end k d within = absurd (omega arith)
ranges_between-at (s ∷ []) end zero d within = refl
ranges_between-at (s ∷ []) end (suc k) d within = absurd (omega arith)
ranges_between-at (s ∷ t ∷ starts) end zero d within = refl
ranges_between-at (s ∷ t ∷ starts) end (suc k) d within = ranges_between-at (t ∷ starts) end k d (omega arith)

pub length-ranges_between : (starts : List ℕ) (end : ℕ) → length (ranges_between starts end) ≡ length starts
length-ranges_between [] end = refl
length-ranges_between (s ∷ []) end = refl
length-ranges_between (s ∷ t ∷ starts) end = ap suc (length-ranges_between (t ∷ starts) end)

module _ (classes : List BidiClass) (levels : List ℕ) where
  -- level runs that begin at a and at each of the starts, the last up to the end
  abbrev pub AreLevelRuns : ℕ → List ℕ → Type 0
  AreLevelRuns a [] = IsLevelRun classes levels a (length classes)
  AreLevelRuns a (b ∷ starts) = IsLevelRun classes levels a b × AreLevelRuns b starts

  cut : (low m a : ℕ) → a < low → low + m ≡ length classes → (a ≡ 0) ⊎ (begins_run classes levels a ≡ true) → ((k : ℕ) → a < k → k < low → begins_run classes levels k ≡ false)
      → AreLevelRuns a (filter (begins_run classes levels) (range_with_len low m))
  cut low zero a before all starts none = grind arith
  cut low (suc m) a before all starts none = grind (
    arith,
    cases_Bool (begins_run classes levels low),
    cut (low + 1) m low,
    cut (low + 1) m a,
  )

  begins_run-zero : begins_run classes levels 0 ≡ false
  unfolding begins_run
  begins_run-zero = grind (arith, kept_before-is_None)

  -- the level runs of a paragraph
  pub AreLevelRuns-begins : 0 < length classes → AreLevelRuns 0 (filter (begins_run classes levels) (indexes classes))
  AreLevelRuns-begins some = grind (arith, begins_run-zero, cut)

  level_run_at : (a : ℕ) (starts : List ℕ) (k : ℕ) → AreLevelRuns a starts → k < length (a ∷ starts)
      → IsLevelRun classes levels (get_or (a ∷ starts ++ length classes ∷ []) k 0) (get_or (a ∷ starts ++ length classes ∷ []) (suc k) 0)
  level_run_at a [] zero h within = h
  level_run_at a [] (suc k) h within = absurd (omega arith)
  level_run_at a (b ∷ starts) zero h within = h.0
  level_run_at a (b ∷ starts) (suc k) h within = level_run_at b starts k h.1 (omega arith)

-- the k-th level run
pub IsLevelRun-at : (classes : List BidiClass) (levels : List ℕ) (k : ℕ) → k < length (run_starts classes levels)
    → IsLevelRun classes levels (get_or (run_starts classes levels ++ length classes ∷ []) k 0) (get_or (run_starts classes levels ++ length classes ∷ []) (suc k) 0)
unfolding run_starts
IsLevelRun-at [] levels k within = absurd (omega arith)
IsLevelRun-at (c ∷ classes) levels k within = level_run_at (c ∷ classes) levels 0 _ k (AreLevelRuns-begins (c ∷ classes) levels (omega arith)) within

-- the kept characters of one range of units
pub kept_in_run : {encoding : Encoding} (text : Text encoding) (classes : List BidiClass) (a b : ℕ) → a ≤ length text.chars → b ≤ length text.chars
    → kept_in_runs text classes ((unit_index text a, unit_index text b) ∷ []) ≡ filter (is_kept_at classes) (range_with_len a (b - a))
unfolding in_units.kept_in_runs in_units.chars_in_runs
kept_in_run text classes a b first second = search (rules, char_index-unit_index)

-- the k-th level run as a range of units
pub level_run_ranges-at : {encoding : Encoding} (text : Text encoding) (classes : List BidiClass) (levels : List ℕ) (k : ℕ) (d : ℕ × ℕ) → length classes ≡ length text.chars → k < length (run_starts classes levels)
    → get_or (level_run_ranges text classes levels) k d
    ≡ (unit_index text (get_or (run_starts classes levels ++ length classes ∷ []) k 0), unit_index text (get_or (run_starts classes levels ++ length classes ∷ []) (suc k) 0))
unfolding in_units.level_run_ranges
level_run_ranges-at text classes levels k d long within =
    let starts : List ℕ = run_starts classes levels in
    let n : ℕ = length classes in
    let last : text_len text ≡ unit_index text n = sym (unit_index-end text n (omega arith)) in
    let both : length (starts ++ n ∷ []) ≡ length starts + 1 = length-append starts (n ∷ []) in
    grind (
      arith,
      ranges_between-at (map (unit_index text) starts) (text_len text) k d,
      length-map,
      map-append (unit_index text) starts (n ∷ []),
      get_or-map (unit_index text) (starts ++ n ∷ []),
    )

pub length-level_run_ranges : {encoding : Encoding} (text : Text encoding) (classes : List BidiClass) (levels : List ℕ)
    → length (level_run_ranges text classes levels) ≡ length (run_starts classes levels)
unfolding in_units.level_run_ranges
length-level_run_ranges text classes levels = grind (arith, length-ranges_between, length-map)
