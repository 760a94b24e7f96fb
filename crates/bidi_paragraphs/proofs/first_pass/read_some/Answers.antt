use Rattle.bidi_base.proofs.Common.{refl, arith}
use Rattle.bidi_paragraphs.proofs.Skimmed.{is_boundary-skimmed, stop-on}
use Rattle.bidi_paragraphs.proofs.first_pass.read_some.Goals as goal

pub read_on-requires : goal.read_on-requires
read_on-requires g c = record {
  sized = grind arith;
  begins = is_boundary-skimmed _ _ _ _ _ _ _ _ _ _ c.in_default.ensures g.T.TextSource.encoding.positive (g.T.TextSource.text c.args.text).chars c.requires.begins refl;
}

pub returns : goal.returns
returns g c = record {
  stop = stop-on _ _ _ _ _ _ _ _ _ _ c.in_default.ensures g.T.TextSource.encoding.positive (g.T.TextSource.text c.args.text).chars c.requires.begins refl
      c.read_on.result c.read_on.new.progress.at c.read_on.new.classes c.read_on.new.progress.flags c.read_on.ensures.stop;
  passed = grind arith;
}
