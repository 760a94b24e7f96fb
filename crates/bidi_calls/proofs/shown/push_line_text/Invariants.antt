use Rattle.bidi_base.proofs.Common.{◌≡◌, ◌++◌, [], List, ℕ, flat_map, map, take, at_indexes}
use Rattle.bidi_display.specs.DisplayedLine.{cluster_order}
use Rattle.bidi_display.specs.Shown.{chars, clusters, cluster_text, options}
use Rattle.bidi_calls.proofs.shown.push_line_text.Given as goal

abbrev pub invariant-loop-index : goal.invariant-loop-index
invariant-loop-index g l = l.out.items ≡ l.fn.out.items ++ flat_map g.T.LineText.encode (flat_map (λ (text : List ℕ). text)
    (at_indexes [] (map (cluster_text (options l.line) (g.M.MirroredCharacters.mirrored_of l.mirrors) (chars l.line)) (clusters l.line)) (take l.index-index (cluster_order (clusters l.line)))))
