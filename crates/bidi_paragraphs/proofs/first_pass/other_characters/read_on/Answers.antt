use Rattle.bidi_base.proofs.Common.{refl, arith}
use Rattle.bidi_base.proofs.TextLemmas.{is_boundary-le}
use Rattle.bidi_paragraphs.specs.ClassSet.{has}
use Rattle.bidi_paragraphs.specs.FirstPass.{IsReadOn}
use Rattle.bidi_paragraphs.proofs.FlagsLemmas.{other-idle, other-same}
use Rattle.bidi_paragraphs.proofs.Skimmed.{is_boundary-skimmed, stop-on-fewer, fewer}
use Rattle.bidi_paragraphs.proofs.first_pass.other_characters.read_on.Given.{Over}
use Rattle.bidi_paragraphs.proofs.first_pass.other_characters.read_on.Goals as goal
use Rattle.bidi_paragraphs.proofs.first_pass.other_characters.read_on.Goals.{After-read_low_blocks}

pub read_low_blocks-requires : goal.read_low_blocks-requires
read_low_blocks-requires g c = record { place = c.requires; sought = other-same _ _ _ c.sought_with-sought.ensures }

-- what the blocks gave was read
blocks : (g : Over) (c : After-read_low_blocks g)
    → IsReadOn (g.D.BidiDataSource.source c.args.data_source.now) g.T.TextSource.encoding.len_of (g.T.TextSource.text c.args.text).chars (has c.args.stop_classes) c.args.progress.now c.read_low_blocks.result c.read_low_blocks.new.progress c.args.classes.now c.read_low_blocks.new.classes
blocks g c = fewer _ _ _ _ (other-idle _ _ _ c.sought_with-sought.ensures) _ _ _ _ _ _ _ c.read_low_blocks.result c.read_low_blocks.ensures.stop

pub returns-in-Some : goal.returns-in-Some
returns-in-Some g c = record {
  stop = rw c.in-Some.is at (blocks g (goal.at.returns-in-Some g c).After-read_low_blocks);
  passed = grind arith;
}

pub overflow_sub-left : goal.overflow_sub-left
overflow_sub-left g c =
    let h = rw c.in_default.is at (blocks g (goal.at.overflow_sub-left g c).After-read_low_blocks) in
    let begins = is_boundary-skimmed _ _ _ _ _ _ _ _ _ _ h g.T.TextSource.encoding.positive (g.T.TextSource.text c.args.text).chars c.requires.begins refl in
    omega (arith, c.requires.sized, c.read_low_blocks.auto.classes, is_boundary-le g.T.TextSource.encoding.len_of (g.T.TextSource.text c.args.text).chars c.read_low_blocks.new.progress.at begins)

pub read_in_place-requires-clause-seek : goal.read_in_place-requires-clause-seek
read_in_place-requires-clause-seek g c = record {
  place = record {
    sized = grind arith;
    begins = let h = rw c.in_default.is at (blocks g (goal.at.read_in_place-requires-clause-seek g c).After-read_low_blocks) in
        is_boundary-skimmed _ _ _ _ _ _ _ _ _ _ h g.T.TextSource.encoding.positive (g.T.TextSource.text c.args.text).chars c.requires.begins refl;
  };
  sought = other-same _ _ _ c.sought_with-sought-2.ensures;
}

pub returns-then-left-ge-AT_ONCE : goal.returns-then-left-ge-AT_ONCE
returns-then-left-ge-AT_ONCE g c =
    let h = rw c.in_default.is at (blocks g (goal.at.returns-then-left-ge-AT_ONCE g c).After-read_low_blocks) in
    record {
      stop = stop-on-fewer _ _ _ _ _ _ _ _ _ _ h g.T.TextSource.encoding.positive (g.T.TextSource.text c.args.text).chars c.requires.begins refl (has c.sought_with-sought-2.result) (other-idle _ _ _ c.sought_with-sought-2.ensures)
          c.read_in_place.result c.read_in_place.new.progress.at c.read_in_place.new.classes c.read_in_place.new.progress.flags c.read_in_place.ensures.stop;
      passed = grind arith;
    }

pub read_block-requires : goal.read_block-requires
read_block-requires g c = record {
  place = record {
    sized = grind arith;
    begins = let h = rw c.in_default.is at (blocks g (goal.at.read_block-requires g c).After-read_low_blocks) in
        is_boundary-skimmed _ _ _ _ _ _ _ _ _ _ h g.T.TextSource.encoding.positive (g.T.TextSource.text c.args.text).chars c.requires.begins refl;
  };
  sought = other-same _ _ _ c.sought_with-sought-2.ensures;
}

pub returns-else-READS_IN_PLACE : goal.returns-else-READS_IN_PLACE
returns-else-READS_IN_PLACE g c =
    let h = rw c.in_default.is at (blocks g (goal.at.returns-else-READS_IN_PLACE g c).After-read_low_blocks) in
    record {
      stop = stop-on-fewer _ _ _ _ _ _ _ _ _ _ h g.T.TextSource.encoding.positive (g.T.TextSource.text c.args.text).chars c.requires.begins refl (has c.sought_with-sought-2.result) (other-idle _ _ _ c.sought_with-sought-2.ensures)
          c.read_block.result c.read_block.new.progress.at c.read_block.new.classes c.read_block.new.progress.flags c.read_block.ensures.stop;
      passed = grind arith;
    }
