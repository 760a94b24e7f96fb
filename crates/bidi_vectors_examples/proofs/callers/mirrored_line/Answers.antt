use Rattle.bidi_base.proofs.Common.{◌≡◌, ℕ, List, map, flat_map, arith, flat_map-map, map-id, ◌∙◌, YieldsList-end, YieldsList-from_vec}
use Rattle.bidi_vectors_examples.specs.Runs.{shown_run}
use Rattle.bidi_vectors_examples.proofs.callers.mirrored_line.Goals as goal

-- after the last run
all_shown : {A : Type 0} (view : A → List ℕ × ℕ) (shown : List ℕ) (yielded items : List A) (runs : List (List ℕ × ℕ))
    → shown ≡ flat_map (λ r. shown_run (view r)) yielded → map (λ r. r) yielded ≡ items → map view items ≡ runs → shown ≡ flat_map shown_run runs
all_shown view shown yielded items runs so_far all are = grind (arith, flat_map-map, map-id)

pub returns : goal.returns
returns c =
    let items = c.in_ok-items.items in
    let source = c.into_iter-run-iterator.ensures.into_iter_gives in
    let all = YieldsList-from_vec {s = c.into_iter-run-iterator.result} items.items source.0 (source.1 ∙ items.ok.0) in
    let came = YieldsList-end all c.loop-run.yielded c.loop-run.run-iterator c.loop-run.yielded_by c.next.result c.next.new.self c.in-None.is c.next.ensures.steps in
    all_shown (λ r. (r.0.now, r.1)) _ _ _ _ c.loop-run.invariant came.0 c.in_ok-items.ensures
