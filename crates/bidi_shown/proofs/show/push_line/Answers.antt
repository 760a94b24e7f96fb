use Rattle.bidi_base.proofs.Common.{List, ℕ, Run, run_of, IsLevelRun, flat_map-map, All, map, subst, get_or-map, arith, length-map}
use Rattle.bidi_shown.specs.Plain.{run_at, plain_line}
use Rattle.bidi_shown.proofs.show.push_line.Goals as goal

-- what holds of a list under a function, and what it is made into
All-from_map : {X Y : Type 0} (P : Y → Type 0) (f : X → Y) (xs : List X) → All P (map f xs) → All (λ x. P (f x)) xs
All-from_map P f xs h = λ k d within. subst P (get_or-map f xs k d (f d) within) (h k (f d) (omega (arith, length-map xs f)))

pub push_runs-requires-clause-runs : goal.push_runs-requires-clause-runs
push_runs-requires-clause-runs c =
    rw c.as_slice.ensures.value (All-from_map (IsLevelRun 0 c.args.levels.now) run_of c.in_ok-runs.runs.items c.in_ok-runs.ensures.visual.are_runs)

pub returns : goal.returns
unfolding plain_line
returns c =
    let at : Run → List ℕ = run_at c.args.chars.now c.args.levels.now in
    rw (c.as_slice.ensures.value, ← (flat_map-map at run_of c.in_ok-runs.runs.items), c.in_ok-runs.ensures.runs) at c.in_ok-push_runs.ensures
