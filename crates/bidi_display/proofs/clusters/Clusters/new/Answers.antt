use Rattle.bidi_base.proofs.Common.{◌≡◌, Some, None, [], arith}
use Rattle.bidi_base.specs.Texts.{char_at}
use Rattle.bidi_display.proofs.ClusterWalk.{IsReadTo-start, boundary_zero, cluster_ranges_from-zero, text_len-end}
use Rattle.bidi_display.proofs.clusters.Clusters.new.Goals.{in-Some, in_default}
use Rattle.bidi_display.proofs.clusters.Clusters.new.Goals as goal

pub invariant_of-result-clause-begun : goal.invariant_of-result-clause-begun
invariant_of-result-clause-begun g c h =
    let text = g.T.TextSource.text c.args.text in
    elim c.match-char_at.branch [
      | in-Some w ↦
          let read : Some (w.in-Some.c, w.in-Some.len) ≡ char_at text 0 = cc in
          IsReadTo-start text w.in-Some.c w.in-Some.len c.match-char_at.at w.read.new.self c.match-char_at.state read (w.read.ensures.state [] c.new-state.ensures) w.at-is w.state-is
      | in_default w ↦
          let read : None ≡ char_at text 0 = cc in
          absurd (omega (arith, text_len-end text 0 (boundary_zero text) read))
    ]

pub returns : goal.returns
returns g c = cluster_ranges_from-zero (g.T.TextSource.text c.args.text)
