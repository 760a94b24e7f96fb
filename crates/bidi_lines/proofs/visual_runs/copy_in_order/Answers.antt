use Rattle.bidi_base.proofs.Common.{◌≡◌, ℕ, ◌+◌, ◌<◌, ◌++◌, List, [], ◌∷◌, length, get_or, take, map, refl, ap, ◌∙◌, length_push, arith, common_steps, append_assoc, Range, run_of, at_indexes}
use Rattle.bidi_laws.proofs.StoredLemmas.{at_indexes-append}
use Rattle.bidi_lines.proofs.visual_runs.copy_in_order.Goals as goal

-- one more run
pushed_more : (runs old base new : List (Range ℕ)) (order : List ℕ) (i : ℕ) (d run : Range ℕ) → i < length order → get_or order i 0 < length runs
    → map run_of old ≡ map run_of base ++ at_indexes (0, 0) (map run_of runs) (take i order) → new ≡ old ++ run ∷ [] → run_of run ≡ run_of (get_or runs (get_or order i 0) d)
    → map run_of new ≡ map run_of base ++ at_indexes (0, 0) (map run_of runs) (take (i + 1) order)
pushed_more runs old base new order i d run fits inside h e same = grind (arith, common_steps, at_indexes-append, append_assoc)

longer : (old new : List (Range ℕ)) (run : Range ℕ) → new ≡ old ++ run ∷ [] → length new ≡ length old + 1
longer old new run e = ap length e ∙ length_push old run

pub loop-k-preserved : goal.loop-k-preserved
loop-k-preserved c = record {
  room = omega (arith, c.loop-k.invariant.room, c.push_reserved.ensures.capacity, longer _ _ _ c.push_reserved.ensures.items, c.loop-k-test.true);
  runs = pushed_more c.args.runs.now c.loop-k.ordered.items c.args.ordered.now.items _ c.args.order.now c.loop-k.k-index (record { start = 0; end = 0 }) _ c.loop-k-test.true
      (c.requires c.loop-k.k-index 0 c.loop-k-test.true) c.loop-k.invariant.runs c.push_reserved.ensures.items refl;
}
