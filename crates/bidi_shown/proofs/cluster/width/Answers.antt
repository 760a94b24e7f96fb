use Rattle.bidi_base.proofs.Common.{ap, ◌∙◌, sym, map-id, YieldsList-end, YieldsList-from_chars}
use Rattle.bidi_shown.specs.Clusters.{width_of}
use Rattle.bidi_shown.proofs.cluster.width.Goals as goal

pub returns : goal.returns
returns c =
    let end = YieldsList-end (YieldsList-from_chars c.args.text.now c.utf8.text cc) c.loop-c.yielded _ c.loop-c.yielded_by _ _ c.in-None.is c.next.ensures.steps in
    c.loop-c.invariant ∙ ap width_of (sym (map-id c.loop-c.yielded) ∙ end.0)
