use Rattle.bidi_base.proofs.Common.{◌≡◌, ◌∙◌, ℕ, ◌<◌, ◌≤◌, ◌+◌, length, get_or, Some, ascii_at, sym, ap, arith}
use Rattle.bidi_paragraphs.specs.ClassSet.{has}
use Rattle.bidi_paragraphs.proofs.AsciiBlocks.{IsBlockPassed, IsBlockPassed-other, IsBlockPassed-noted, found-small}
use Rattle.bidi_paragraphs.proofs.Skimmed.{ascii-inside, IsSkimmed-start, IsSkimmed-kept, IsSkimmed-ascii_block}
use Rattle.bidi_paragraphs.proofs.first_pass.ascii_characters.skim_blocks.Given.{Over}
use Rattle.bidi_paragraphs.proofs.first_pass.ascii_characters.skim_blocks.Goals as goal
use Rattle.bidi_paragraphs.proofs.first_pass.ascii_characters.skim_blocks.Goals.{In-Some, then-intersects+else-intersects-2, else-intersects, in-Some+then-intersects+then-intersects-2, in_default}

pub loop-next-init : goal.loop-next-init
loop-next-init g c = (omega arith, c.ascii_block_at-next.ensures, c.sought_with-sought.ensures, IsSkimmed-start _ _ _ _ _ _ _)

-- the block that is written
bytes : (g : Over) (c : In-Some g) (k : ℕ) → k < 16 → Some (get_or c.in-Some.block k 0) ≡ ascii_at g.T.TextSource.encoding.len_of (g.T.TextSource.text c.args.text).chars (c.loop-next.start + k)
bytes g c = rw c.in-Some.is at c.loop-next.invariant.1

-- a block is within the text
room : (g : Over) (c : In-Some g) → c.loop-next.start + 16 ≤ length c.loop-next.classes
room g c =
    let last = ascii-inside g.T.TextSource.encoding.len_of g.T.TextSource.encoding.positive (g.T.TextSource.text c.args.text).chars (c.loop-next.start + 15) (get_or c.in-Some.block 15 0) (bytes g c 15 (omega arith)) in
    omega (arith, last, c.loop-next.auto.classes, c.requires.sized)

pub write_block-found-requires : goal.write_block-found-requires
write_block-found-requires g c = room g (goal.at.write_block-found-requires g c).In-Some

pub overflow_add-start : goal.overflow_add-start
overflow_add-start g c = omega (arith, room g (goal.at.overflow_add-start g c).In-Some, c.well_formed, c.loop-next.auto.classes)

pub overflow_add-start-in-Some : goal.overflow_add-start-in-Some
overflow_add-start-in-Some g c = omega (arith, room g (goal.at.overflow_add-start-in-Some g c).In-Some, c.well_formed, c.loop-next.auto.classes)

pub loop-next-smaller : goal.loop-next-smaller
loop-next-smaller g c = omega (arith, room g (goal.at.loop-next-smaller g c).In-Some, c.loop-next.auto.classes)

pub intersects-requires : goal.intersects-requires
intersects-requires g c = found-small (g.D.BidiDataSource.source c.args.data_source.now) c.in-Some.block c.args.stop_classes c.loop-next.progress.flags _ c.write_block-found.ensures.found

pub intersects-requires-then-intersects : goal.intersects-requires-then-intersects
intersects-requires-then-intersects g c = found-small (g.D.BidiDataSource.source c.args.data_source.now) c.in-Some.block c.args.stop_classes c.loop-next.progress.flags _ c.write_block-found.ensures.found

-- the block has no stop class
passed : (g : Over) (c : goal.Joined-intersects g)
    → IsBlockPassed (g.D.BidiDataSource.source c.args.data_source.now) c.in-Some.block c.args.stop_classes c.loop-next.progress.flags c.if-intersects.progress.flags c.if-intersects.sought
passed g c =
    let source = g.D.BidiDataSource.source c.args.data_source.now in
    let found_is = c.write_block-found.ensures.found in
    elim c.if-intersects.branch [
      | then-intersects+else-intersects-2 w ↦
          rw (w.progress-is, w.sought-is, w.with_all-progress.ensures) (IsBlockPassed-noted source c.in-Some.block c.args.stop_classes c.loop-next.progress.flags _ found_is _ (rw w.with_all-progress.ensures at w.sought_with-sought-then-intersects.ensures) (sym w.intersects-then-intersects.ensures ∙ w.if-intersects-2.false))
      | else-intersects w ↦
          rw (w.progress-is, w.sought-is) (IsBlockPassed-other source c.in-Some.block c.args.stop_classes c.loop-next.progress.flags _ found_is _ c.loop-next.invariant.2 (sym c.intersects.ensures ∙ w.if-intersects.false))
    ]

pub loop-next-preserved : goal.loop-next-preserved
loop-next-preserved g c =
    let fits = room g (goal.at.loop-next-preserved g c).In-Some in
    let kept = IsSkimmed-kept _ _ _ _ _ _ _ _ _ _ c.loop-next.invariant.3 c.write_block-found.new.classes c.write_block-found.ensures.outside in
    let written = c.write_block-found.ensures.written in
    let w = passed g c in (
      omega (arith, c.loop-next.invariant.0),
      c.ascii_block_at-next-in-Some.ensures,
      w.are,
      IsSkimmed-ascii_block (g.D.BidiDataSource.source c.args.data_source.now) g.T.TextSource.encoding.len_of (has c.args.stop_classes) g.T.TextSource.encoding.positive (g.T.TextSource.text c.args.text).chars c.args.progress.now.at c.loop-next.start c.requires.begins
          c.args.classes.now c.write_block-found.new.classes _ _ kept c.in-Some.block (omega (arith, fits, c.write_block-found.auto.classes)) (bytes g (goal.at.loop-next-preserved g c).In-Some) written
          (λ k below. ap (has c.args.stop_classes) (written k below) ∙ w.idle k below) _ w.own_flags,
    )

pub returns-clause-read : goal.returns-clause-read
returns-clause-read g c = elim c.match-next.branch [
  | in-Some+then-intersects+then-intersects-2 w ↦ rw w.classes-is (IsSkimmed-kept _ _ _ _ _ _ _ _ _ _ c.loop-next.invariant.3 _ w.write_block-found.ensures.outside)
  | in_default w ↦ rw w.classes-is c.loop-next.invariant.3
]
