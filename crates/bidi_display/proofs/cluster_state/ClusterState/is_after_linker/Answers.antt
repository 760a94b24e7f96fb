use Rattle.bidi_base.proofs.Common.{◌≡◌, false, sym, ap, arith}
use Rattle.ucd_breaks.specs.GraphemeClusterBreak.{grapheme_cluster_break}
use Rattle.unicode_segmentation.specs.Grapheme.{ends_in_linker, is_extend, is_zwj}
use Rattle.unicode_segmentation.proofs.GraphemeLemmas.{ends_in_linker-other}
use Rattle.bidi_display.specs.declared.cluster_state.ClusterState.{ClusterState}
use Rattle.bidi_display.proofs.StateLemmas.{ends_in_linker-outside}
use Rattle.bidi_display.proofs.TableFacts.{outside_conjunct}
use Rattle.bidi_display.proofs.cluster_state.ClusterState.is_after_linker.Goals as goal

pub returns-then-not-is_zwj : goal.returns-then-not-is_zwj
returns-then-not-is_zwj c before e =
    let extend : is_extend (grapheme_cluster_break c.args.c) ≡ false = grind arith in
    let zwj : is_zwj (grapheme_cluster_break c.args.c) ≡ false = grind arith in
    sym (ends_in_linker-outside _ _ (outside_conjunct c.args.c c.if-c-lt-FIRST_OTHER_LINKER.true extend zwj))

pub returns-in-Linker : goal.returns-in-Linker
unfolding ends_in_linker
returns-in-Linker c before e = rw (← c.in-Linker.ensures)

pub returns-in-Extend : goal.returns-in-Extend
unfolding ends_in_linker
returns-in-Extend c before e = rw (← c.in-Extend.ensures) (ap (λ (s : ClusterState). s.after_linker) e)

pub returns-in_default : goal.returns-in_default
returns-in_default c before e = rw (← c.for_char.ensures) (sym (ends_in_linker-other _ _ c.in_default.not-Linker c.in_default.not-Extend))
