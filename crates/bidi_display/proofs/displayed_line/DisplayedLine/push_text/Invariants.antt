use Rattle.std.proofs.Common.{◌≡◌, ◌++◌, [], List, ℕ, flat_map, map, encode_utf8, string_bytes, take}
use Rattle.bidi_base.specs.Indexes.{at_indexes}
use Rattle.bidi_display.specs.Shown.{chars, clusters, cluster_text, options}
use Rattle.bidi_display.specs.DisplayedLine.{cluster_order}
use Rattle.bidi_display.proofs.displayed_line.DisplayedLine.push_text.Given as goal

abbrev pub invariant-loop-index : goal.invariant-loop-index
invariant-loop-index g l = string_bytes l.out ≡ string_bytes l.fn.out
    ++ flat_map encode_utf8 (flat_map (λ (text : List ℕ). text)
    (at_indexes [] (map (cluster_text (options l.self) (g.M.MirroredCharacters.mirrored_of l.mirrors) (chars l.self)) (clusters l.self)) (take l.index-index (cluster_order (clusters l.self)))))
