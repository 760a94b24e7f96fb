use Rattle.bidi_base.proofs.Common.{◌<◌, ap, arith}
use Rattle.bidi_explicit.proofs.CountLemmas.{count-lt}
use Rattle.bidi_explicit.proofs.ExplicitStretches.{stretch-met, IsFirst-advances}
use Rattle.bidi_explicit.proofs.explicit.stretches.Paragraph.read_stretch.Goals as goal

-- each of the three walks takes at most one step for each character or code unit
pub returns : goal.returns
returns g c =
    let text = g.T.TextSource.text c.args.self.now.text in
    let some : c.args.from < c.stretch_end-end.result = IsFirst-advances _ _ _ _ c.requires.plain c.requires.inside c.stretch_end-end.ensures.first in
    let more = count-lt text c.args.self.now.step_unit c.args.from c.stretch_end-end.result c.requires.begins c.stretch_end-end.ensures.begins some in
    record {
      read =
          λ stack levels written same is runs run h. stretch-met _ _ _ _ _ _ runs run h c.stretch_end-end.ensures.first _ _ _ _ (ap (λ entry. entry.status.level) same) (ap (λ entry. entry.status.override) same)
          is c.write_override.ensures.put _ c.first_kept-first_kept.ensures.first _ (λ e. grind arith) (λ e. grind arith) _ c.then_some.ensures;
      advances = some;
      within = grind arith;
      more = more;
      steps_at_least = omega (arith, c.stretch_end-end.ensures.steps_at_least, c.write_override.ensures.steps_at_least, c.first_kept-first_kept.ensures.steps_at_least);
      steps_at_most = omega (arith, more, c.stretch_end-end.ensures.steps_at_most, c.write_override.ensures.steps_at_most, c.first_kept-first_kept.ensures.steps_at_most);
    }
