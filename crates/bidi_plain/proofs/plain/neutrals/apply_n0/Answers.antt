use Rattle.bidi_base.proofs.Common.{get_or, sym, ◌∙◌}
use Rattle.bidi_base.proofs.BracketRules.{n0_pair-Some, n0_pair-None, n0-none, n0-more}
use Rattle.bidi_plain.proofs.plain.neutrals.apply_n0.Goals as goal
use Rattle.bidi_plain.proofs.plain.neutrals.apply_n0.Goals.{in-Some, in_default}

pub loop-pair-init : goal.loop-pair-init
loop-pair-init c = sym (n0-none c.args.embedding_direction c.args.sos c.args.source.now c.args.classes.now)

pub loop-pair-preserved : goal.loop-pair-preserved
loop-pair-preserved c =
    let a = c.args in
    let s = c.loop-pair in
    let pair = get_or a.pairs.now s.pair-index (0, 0) in
    let more = n0-more a.embedding_direction a.sos a.source.now a.classes.now a.pairs.now s.pair-index (0, 0) c.loop-pair-test.true in
    elim c.match-pair_direction.branch [
      | in-Some w ↦
          let step = n0_pair-Some a.embedding_direction a.sos a.source.now s.classes pair w.in-Some.direction (sym c.pair_direction.ensures ∙ w.in-Some.is) in
          simp (w.classes-is, w.set_direction-in-Some.ensures, w.set_direction.ensures, ← step, s.invariant, more)
      | in_default w ↦
          let step = n0_pair-None a.embedding_direction a.sos a.source.now s.classes pair (sym c.pair_direction.ensures ∙ w.in_default.is) in
          simp (w.classes-is, ← step, s.invariant, more)
    ]
