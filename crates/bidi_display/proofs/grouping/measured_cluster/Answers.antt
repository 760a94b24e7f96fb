use Rattle.bidi_base.proofs.Common.{◌≡◌, ap, ◌∙◌, chars, map, refl, slice_range}
use Rattle.bidi_display.specs.LineClusters.{displayed_chars}
use Rattle.bidi_display.proofs.ClusterPass.{is_cluster_of}
use Rattle.bidi_display.proofs.grouping.measured_cluster.Goals as goal

pub returns : goal.returns
returns g c =
    let options = c.args.options in
    let line = c.args.chars.now in
    let range = c.args.range in
    let text : chars c.as_str.result.now ≡ map (λ d. d.char) (displayed_chars options (slice_range line range.start range.end)) =
    ap chars c.as_str.ensures.value ∙ c.in_ok-collect_displayed.ensures options refl in
    is_cluster_of options (g.W.ClusterWidth.width_of c.args.widths.now) range.start range.end c.args.column line c.index-cluster-0.result c.index-cluster-cluster.result c.cluster_level.result
    c.width_at.result (chars c.as_str.result.now) c.requires.not_empty c.requires.within (c.cluster_level.ensures options refl) text c.width_at.ensures
