-- The level runs of a line's units are those of its characters, where each unit has its character's level.
use Rattle.bidi_base.proofs.Common.{◌≡◌, ◌≢◌, ℕ, zero, suc, ◌+◌, ◌<◌, ◌≤◌, List, [], ◌∷◌, ◌++◌, map, replicate, length, get_or, refl, arith, eqb-true, eq-eqb, eqb-false, map-map, get_or-map}
use Rattle.bidi_base.proofs.Common.{length-map, nil_from_length, sum_by-cons, All-tail, at_indexes, unit_index, per_unit, visual_order, Run, level_runs_from, level_runs, run_level, visual_runs}
use Rattle.bidi_base.proofs.Common.{IsLevelRun, All}
use Rattle.std.proofs.Common.{add-zero}
use Rattle.bidi_base.proofs.TextLemmas.{HasUnits}
use Rattle.bidi_base.proofs.PerUnit.{get_or-per_unit-unit_index}
use Rattle.bidi_lines.proofs.Ordered.{visual_order-is}
use Rattle.bidi_lines.proofs.VisualRuns.{order_below}
use Rattle.bidi_lines.proofs.Pieces.{at_indexes-map}
use Rattle.bidi_lines.proofs.RunsLemmas.{level_runs-each}

-- units of the same level go on with the run
more_units : (start from level n : ℕ) (rest : List ℕ) → level_runs_from start from level (replicate n level ++ rest) ≡ level_runs_from start (from + n) level rest
more_units start from level zero rest = simp add-zero
more_units start from level (suc n) rest = grind (arith, eq-eqb, more_units start (from + 1) level n rest)

-- and units of another level begin one
other_units : (start from level next n : ℕ) (rest : List ℕ) → next ≢ level → 0 < n
    → level_runs_from start from level (replicate n next ++ rest) ≡ (start, from) ∷ level_runs_from from (from + n) next rest
other_units start from level next n rest other some = grind (arith, more_units)

-- the units of a run of characters, where the character k stands at P k
abbrev pub units_of : (ℕ → ℕ) → Run → Run
units_of P run = (P run.0, P run.1)

-- P tells the places of the characters from f on
Places : (ℕ → ℕ) → (ℕ → ℕ) → ℕ → List ℕ → Type 0
Places P len_of f chars = (j : ℕ) → j ≤ length chars → P (f + j) ≡ P f + unit_index len_of chars j

next_place : (P len_of : ℕ → ℕ) (f c : ℕ) (chars : List ℕ) → Places P len_of f (c ∷ chars) → P (f + 1) ≡ P f + len_of c
unfolding Places
next_place P len_of f c chars h = grind arith

later_places : (P len_of : ℕ → ℕ) (f c : ℕ) (chars : List ℕ) → Places P len_of f (c ∷ chars) → Places P len_of (f + 1) chars
unfolding Places
later_places P len_of f c chars h j fits = grind (arith, h (suc j), sum_by-cons, next_place)

runs_of_units : (P len_of : ℕ → ℕ) → HasUnits len_of → (chars levels : List ℕ) → length levels ≡ length chars
    → (s f level : ℕ) → Places P len_of f chars
    → level_runs_from (P s) (P f) level (per_unit len_of chars levels) ≡ map (units_of P) (level_runs_from s f level levels)
runs_of_units P len_of some [] levels e s f level h = simp (nil_from_length levels (omega arith))
runs_of_units P len_of some (c ∷ chars) [] e s f level h = absurd (omega arith)
runs_of_units P len_of some (c ∷ chars) (k ∷ levels) e s f level h =
    let same = runs_of_units P len_of some chars levels (omega arith) s (f + 1) level in
    let other = runs_of_units P len_of some chars levels (omega arith) f (f + 1) k in
    grind (arith, eqb-true, eqb-false, eq-eqb, more_units, other_units (P s) (P f) level k (len_of c), next_place P len_of f c chars h, later_places P len_of f c chars h, same, other)

-- the place of a character in a line that starts at the unit `from`
abbrev pub place_from : ℕ → (ℕ → ℕ) → List ℕ → ℕ → ℕ
place_from from len_of chars k = from + unit_index len_of chars k

places : (from : ℕ) (len_of : ℕ → ℕ) (chars : List ℕ) → Places (place_from from len_of chars) len_of 0 chars
unfolding Places
places from len_of chars j fits = let e : 0 + j ≡ j = omega arith in rw e (omega arith)

first_run : (from level n : ℕ) (rest : List ℕ) → 0 < n → level_runs from (replicate n level ++ rest) ≡ level_runs_from from (from + n) level rest
first_run from level n rest some = grind (arith, more_units)

-- the level runs of the units
pub level_runs-units : (from : ℕ) (len_of : ℕ → ℕ) → HasUnits len_of → (chars levels : List ℕ) → length levels ≡ length chars
    → level_runs from (per_unit len_of chars levels) ≡ map (units_of (place_from from len_of chars)) (level_runs 0 levels)
level_runs-units from len_of some [] levels e = simp (nil_from_length levels (omega arith))
level_runs-units from len_of some (c ∷ chars) [] e = absurd (omega arith)
level_runs-units from len_of some (c ∷ chars) (k ∷ levels) e =
    let h = places from len_of (c ∷ chars) in
    grind (arith, next_place (place_from from len_of (c ∷ chars)) len_of 0 c chars h, first_run, runs_of_units (place_from from len_of (c ∷ chars)) len_of some chars levels, later_places (place_from from len_of (c ∷ chars)) len_of 0 c chars h)

pub map-same_on : {A B : Type 0} (f g : A → B) (xs : List A) → All (λ x. f x ≡ g x) xs → map f xs ≡ map g xs
map-same_on f g [] h = refl
map-same_on f g (x ∷ xs) h = cc (h zero x (omega arith), map-same_on f g xs (All-tail (λ x. f x ≡ g x) x xs h))

-- the level of a run of units is that of the run of characters
pub run_level-units : (from : ℕ) (len_of : ℕ → ℕ) → HasUnits len_of → (chars levels : List ℕ) → length levels ≡ length chars
    → (run : Run) → IsLevelRun 0 levels run → run_level from (per_unit len_of chars levels) (units_of (place_from from len_of chars) run) ≡ run_level 0 levels run
run_level-units from len_of some chars levels e run h = grind (arith, get_or-per_unit-unit_index)

pub at_indexes-moved : (f : Run → Run) (runs : List Run) (order : List ℕ) → All (λ k. k < length runs) order → at_indexes (0, 0) (map f runs) order ≡ map f (at_indexes (0, 0) runs order)
at_indexes-moved f runs order h = grind (arith, at_indexes-map, map-same_on, get_or-map, map-map)

-- the visual runs of the units
pub visual_runs-units : (from : ℕ) (len_of : ℕ → ℕ) → HasUnits len_of → (chars levels : List ℕ) → length levels ≡ length chars
    → visual_runs from (per_unit len_of chars levels) ≡ map (units_of (place_from from len_of chars)) (visual_runs 0 levels)
unfolding visual_runs
visual_runs-units from len_of some chars levels e =
    let own : List ℕ = map (run_level 0 levels) (level_runs 0 levels) in
    let below = order_below own (visual_order own) (length (level_runs 0 levels)) (length-map (level_runs 0 levels) (run_level 0 levels)) (visual_order-is own) in
    let same_levels = map-same_on (λ r. run_level from (per_unit len_of chars levels) (units_of (place_from from len_of chars) r)) (run_level 0 levels) (level_runs 0 levels)
    (λ k d fits. run_level-units from len_of some chars levels e (get_or (level_runs 0 levels) k d) (level_runs-each 0 levels k d fits)) in
    simp (level_runs-units from len_of some chars levels e, map-map, same_levels, at_indexes-moved (units_of (place_from from len_of chars)) (level_runs 0 levels) (visual_order own) below)
