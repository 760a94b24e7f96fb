use Rattle.bidi_base.proofs.Common.{arith, is_ni}
use Rattle.bidi_laws.proofs.Blocks.{IsBlock-counted, length-part}
use Rattle.bidi_laws.proofs.InPlace.{IsRewritten-end}
use Rattle.bidi_laws.proofs.NeutralBlocks.{IsAtNeutrals-block}
use Rattle.bidi_plain.proofs.plain.neutrals.apply_n1_n2.Goals as goal

pub loop-start-preserved : goal.loop-start-preserved
loop-start-preserved c =
    grind (
      arith,
      IsBlock-counted is_ni c.args.classes.now c.loop-start.classes c.loop-start.start,
      length-part,
      IsAtNeutrals-block c.args.embedding_direction c.args.sos c.args.eos c.args.classes.now c.loop-start.classes,
    )

pub returns : goal.returns
returns c = grind (arith, IsRewritten-end)
