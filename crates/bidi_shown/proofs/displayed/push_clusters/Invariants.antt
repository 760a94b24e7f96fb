use Rattle.bidi_base.proofs.Common.{◌≡◌, ◌++◌, flat_map, encode_utf8, string_bytes, take}
use Rattle.bidi_display.specs.DisplayedLine.{cluster_order}
use Rattle.bidi_display.specs.Shown.{chars, clusters}
use Rattle.bidi_shown.proofs.DisplayedLemmas.{text_at}
use Rattle.bidi_shown.proofs.displayed.push_clusters.Given as goal

abbrev pub invariant-loop-index : goal.invariant-loop-index
invariant-loop-index l = string_bytes l.out
    ≡ string_bytes l.fn.out ++ flat_map encode_utf8 (flat_map (text_at l.view (chars l.line) (clusters l.line)) (take l.index-index (cluster_order (clusters l.line))))
