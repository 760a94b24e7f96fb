use Rattle.bidi_base.proofs.Common.{◌≡◌, ◌++◌, [], List, ℕ, flat_map, map, take, at_indexes}
use Rattle.bidi_display.specs.DisplayedLine.{cluster_order}
use Rattle.bidi_display.specs.Shown.{chars, clusters, options}
use Rattle.bidi_calls.specs.ShownOrder.{shown_in}
use Rattle.bidi_calls.proofs.shown.push_order.Given as goal

abbrev pub invariant-loop-index : goal.invariant-loop-index
invariant-loop-index l = l.out.items ≡ l.fn.out.items ++ flat_map (λ (ks : List ℕ). ks)
    (at_indexes [] (map (shown_in (options l.line) l.first (chars l.line)) (clusters l.line)) (take l.index-index (cluster_order (clusters l.line))))
