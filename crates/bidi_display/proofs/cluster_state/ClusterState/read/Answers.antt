use Rattle.bidi_base.proofs.Common.{◌≡◌, ap, sym, ◌∙◌, arith, not}
use Rattle.bidi_display.specs.declared.cluster_state.ClusterState.{ClusterState}
use Rattle.bidi_display.proofs.StateLemmas.{is_grapheme_break-plain, is_prepend}
use Rattle.bidi_display.proofs.cluster_state.ClusterState.read.Goals.{in-Prepend, in_default}
use Rattle.bidi_display.proofs.cluster_state.ClusterState.read.Goals as goal

pub returns-then-is_plain-clause-begins : goal.returns-then-is_plain-clause-begins
returns-then-is_plain-clause-begins c before after e =
    let tested : c.match-matches.matches ≡ is_prepend c.args.self.now.last = elim c.match-matches.branch [ in-Prepend w ↦ grind arith | in_default w ↦ grind arith ] in
    ap not (tested ∙ ap (λ (s : ClusterState). is_prepend s.last) e) ∙ sym (is_grapheme_break-plain before after c.args.c (sym c.is_plain.ensures ∙ c.if-is_plain.true))
