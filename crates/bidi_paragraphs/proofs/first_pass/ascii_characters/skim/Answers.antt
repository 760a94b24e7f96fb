use Rattle.bidi_base.proofs.Common.{arith, refl}
use Rattle.bidi_paragraphs.specs.ClassSet.{has}
use Rattle.bidi_paragraphs.specs.FirstPass.{IsReadOn}
use Rattle.bidi_paragraphs.proofs.FlagsLemmas.{other-idle, other-same}
use Rattle.bidi_paragraphs.proofs.Skimmed.{IsSkimmed-start, is_boundary-skimmed, IsSkimmed-on, stop-on-fewer}
use Rattle.bidi_paragraphs.proofs.first_pass.ascii_characters.skim.Given.{Over}
use Rattle.bidi_paragraphs.proofs.first_pass.ascii_characters.skim.Goals as goal
use Rattle.bidi_paragraphs.proofs.first_pass.ascii_characters.skim.Goals.{After-skim_each}

pub loop-progress-init : goal.loop-progress-init
loop-progress-init g c = IsSkimmed-start _ _ _ _ _ _ _

pub skim_each-requires : goal.skim_each-requires
skim_each-requires g c = record {
  place = record {
    sized = grind arith;
    begins = is_boundary-skimmed _ _ _ _ _ _ _ _ _ _ c.loop-progress.invariant g.T.TextSource.encoding.positive (g.T.TextSource.text c.args.text).chars c.requires.begins refl;
  };
  sought = other-same _ _ _ c.sought_with-sought.ensures;
}

-- what came before the blocks was read
each : (g : Over) (c : After-skim_each g)
    → IsReadOn (g.D.BidiDataSource.source c.args.data_source.now) g.T.TextSource.encoding.len_of (g.T.TextSource.text c.args.text).chars (has c.args.stop_classes) c.args.progress.now c.skim_each.result c.skim_each.new.progress c.args.classes.now c.skim_each.new.classes
each g c =
    stop-on-fewer _ _ _ _ _ _ _ _ _ _ c.loop-progress.invariant g.T.TextSource.encoding.positive (g.T.TextSource.text c.args.text).chars c.requires.begins refl (has c.sought_with-sought.result) (other-idle _ _ _ c.sought_with-sought.ensures)
    c.skim_each.result c.skim_each.new.progress.at c.skim_each.new.classes c.skim_each.new.progress.flags c.skim_each.ensures

pub returns-in-Some : goal.returns-in-Some
returns-in-Some g c = rw c.in-Some.is at (each g (goal.at.returns-in-Some g c).After-skim_each)

pub returns-then-progress-limit : goal.returns-then-progress-limit
returns-then-progress-limit g c = rw c.in_default.is at (each g (goal.at.returns-then-progress-limit g c).After-skim_each)

pub skim_blocks-requires : goal.skim_blocks-requires
skim_blocks-requires g c = record {
  sized = grind arith;
  begins = is_boundary-skimmed _ _ _ _ _ _ _ _ _ _ (rw c.in_default.is at (each g (goal.at.skim_blocks-requires g c).After-skim_each)) g.T.TextSource.encoding.positive (g.T.TextSource.text c.args.text).chars c.requires.begins refl;
}

pub loop-progress-preserved : goal.loop-progress-preserved
loop-progress-preserved g c =
    let h = rw c.in_default.is at (each g (goal.at.loop-progress-preserved g c).After-skim_each) in
    IsSkimmed-on _ _ _ _ _ _ _ _ _ _ h g.T.TextSource.encoding.positive (g.T.TextSource.text c.args.text).chars c.requires.begins refl _ _ _ c.skim_blocks.ensures.read
