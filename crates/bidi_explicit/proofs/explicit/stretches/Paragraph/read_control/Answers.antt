use Rattle.bidi_base.proofs.Common.{arith}
use Rattle.bidi_explicit.proofs.ExplicitStretches.{control-can, control-index, control-after, control-some, read-begins}
use Rattle.bidi_explicit.proofs.explicit.stretches.Paragraph.read_control.Goals as goal

pub read-answer-requires : goal.read-answer-requires
read-answer-requires g c =
    let can = control-can _ _ _ _ _ _ _ c.requires.read.2 c.requires.inside c.args.self.now.low (omega arith) in
    record { control = c.requires.control; poppable = can.poppable; depth = (c.args.self.now.level, can.depth); counts = can.counts }

pub end_of-end-requires-clause-begins : goal.end_of-end-requires-clause-begins
end_of-end-requires-clause-begins g c = read-begins _ _ _ _ _ _ _ c.requires.read.2

pub write_control-requires-clause-ordered : goal.write_control-requires-clause-ordered
write_control-requires-clause-ordered g c = omega (arith, control-some _ _ _ _ _ _ _ c.requires.read.2 c.requires.inside c.end_of-end.result c.end_of-end.ensures)

pub returns : goal.returns
returns g c =
    record {
      read =
          λ runs run h. control-after _ _ _ _ _ runs run h c.requires.inside c.end_of-end.result c.end_of-end.ensures _ _ _ c.read-answer.ensures.state c.read-answer.ensures.level
          c.read-answer.ensures.class
          _ _ c.write_control.ensures.levels c.write_control.ensures.classes _ (grind (arith, c.then_some.ensures));
      advances = control-some _ _ _ _ _ _ _ c.requires.read.2 c.requires.inside c.end_of-end.result c.end_of-end.ensures;
      one = control-index _ _ _ _ _ _ _ c.requires.read.2 c.requires.inside c.end_of-end.result c.end_of-end.ensures;
      steps_at_least = omega (arith, c.read-answer.ensures.steps_at_least);
      steps_at_most = omega (arith, c.read-answer.ensures.steps_at_most);
    }
