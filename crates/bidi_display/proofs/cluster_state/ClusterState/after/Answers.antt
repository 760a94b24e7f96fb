use Rattle.bidi_base.proofs.Common.{◌≡◌, ◌&&◌, cond, arith}
use Rattle.ucd_breaks.specs.GraphemeClusterBreak.{grapheme_cluster_break}
use Rattle.ucd_emoji.specs.Binary.{is_extended_pictographic}
use Rattle.unicode_segmentation.specs.Grapheme.{is_extend, is_zwj}
use Rattle.bidi_display.proofs.StateLemmas.{state_after-cons}
use Rattle.bidi_display.proofs.cluster_state.ClusterState.after.Goals.{then-is_extend, else-is_extend, then-is_zwj, else-is_zwj}
use Rattle.bidi_display.proofs.cluster_state.ClusterState.after.Goals as goal

pub returns : goal.returns
returns c before e =
    let s = c.args.self in
    let value = grapheme_cluster_break c.args.c in
    let base : c.if-is_extend.result ≡ cond (is_extend value) s.base c.args.c = elim c.if-is_extend.branch [ then-is_extend w ↦ grind arith | else-is_extend w ↦ grind arith ] in
    let zwj : c.if-is_zwj.result ≡ (is_zwj value && is_extended_pictographic s.base) = elim c.if-is_zwj.branch [ then-is_zwj w ↦ grind arith | else-is_zwj w ↦ grind arith ] in
    state_after-cons s before c.args.c c.args.value c.if-is_extend.result c.is_after_linker.result c.if-is_zwj.result _ e c.requires base (c.is_after_linker.ensures before e) zwj (grind arith)
