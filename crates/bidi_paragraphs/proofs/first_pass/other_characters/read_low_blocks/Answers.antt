use Rattle.bidi_base.proofs.Common.{◌≡◌, ◌+◌, ◌≤◌, length, get_or, arith}
use Rattle.bidi_paragraphs.specs.ClassSet.{has}
use Rattle.bidi_paragraphs.proofs.FlagsLemmas.{flags_to, flags_to-same}
use Rattle.bidi_paragraphs.proofs.Skimmed.{char-inside, IsSkimmed-start, IsSkimmed-kept, IsSkimmed-part, IsStop-part}
use Rattle.bidi_paragraphs.proofs.first_pass.other_characters.read_low_blocks.Given.{Over}
use Rattle.bidi_paragraphs.proofs.first_pass.other_characters.read_low_blocks.Goals as goal
use Rattle.bidi_paragraphs.proofs.first_pass.other_characters.read_low_blocks.Goals.{In-Some, After-write_low_block-idle}

pub loop-start-init : goal.loop-start-init
loop-start-init g c = IsSkimmed-start _ _ _ _ _ _ _

-- a block is within the text
room : (g : Over) (c : In-Some g) → c.loop-start.start + 16 ≤ length c.loop-start.classes
room g c =
    let last = char-inside g.T.TextSource.encoding.len_of g.T.TextSource.encoding.positive (g.T.TextSource.text c.args.text).chars (c.loop-start.start + 15) (get_or c.in-Some.block 15 0) 1 (c.in-Some.ensures.characters 15 (omega arith)) in
    omega (arith, last, c.loop-start.auto.classes, c.requires.place.sized)

pub write_low_block-idle-requires-clause-room : goal.write_low_block-idle-requires-clause-room
write_low_block-idle-requires-clause-room g c = room g (goal.at.write_low_block-idle-requires-clause-room g c).In-Some

pub overflow_add-start : goal.overflow_add-start
overflow_add-start g c = omega (arith, room g (goal.at.overflow_add-start g c).In-Some, c.write_low_block-idle.ensures.within, c.well_formed, c.loop-start.auto.classes)

pub slice_copy_out-class : goal.slice_copy_out-class
slice_copy_out-class g c = omega (arith, room g (goal.at.slice_copy_out-class g c).In-Some, c.if-idle-lt-LOW_BLOCK.true, c.write_low_block-idle.auto.classes)

-- the characters before the one that is sought change no flag
same : (g : Over) (c : After-write_low_block-idle g)
    → flags_to (g.D.BidiDataSource.source c.args.data_source.now) c.in-Some.block c.args.progress.now.flags c.write_low_block-idle.result ≡ c.args.progress.now.flags
same g c = flags_to-same (g.D.BidiDataSource.source c.args.data_source.now) c.in-Some.block _ c.write_low_block-idle.result (λ k below.
    let is_class = c.write_low_block-idle.ensures.written k (omega (arith, below, c.write_low_block-idle.ensures.within)) (omega (arith, below)) in
    rw is_class at (c.requires.sought _ (c.write_low_block-idle.ensures.idle k below)))

pub returns-then-idle-lt-LOW_BLOCK : goal.returns-then-idle-lt-LOW_BLOCK
returns-then-idle-lt-LOW_BLOCK g c =
    let at = goal.at.returns-then-idle-lt-LOW_BLOCK g c in
    let fits = room g at.In-Some in
    let kept = IsSkimmed-kept _ _ _ _ _ _ _ _ _ _ c.loop-start.invariant c.write_low_block-idle.new.classes c.write_low_block-idle.ensures.outside in
    let stop = IsStop-part (g.D.BidiDataSource.source c.args.data_source.now) g.T.TextSource.encoding.len_of (has c.args.sought) g.T.TextSource.encoding.positive (g.T.TextSource.text c.args.text).chars c.args.progress.now.at c.loop-start.start c.requires.place.begins
    c.args.classes.now c.write_low_block-idle.new.classes _ _ kept c.in-Some.block (omega (arith, fits, c.write_low_block-idle.auto.classes)) c.in-Some.ensures.characters c.write_low_block-idle.result c.if-idle-lt-LOW_BLOCK.true c.write_low_block-idle.ensures.written c.write_low_block-idle.ensures.idle in
    record { stop = rw c.char_of_low-c.ensures (rw (same g at.After-write_low_block-idle) at stop) }

pub loop-start-smaller : goal.loop-start-smaller
loop-start-smaller g c = omega (arith, room g (goal.at.loop-start-smaller g c).In-Some, c.if-idle-lt-LOW_BLOCK.false, c.write_low_block-idle.ensures.within, c.loop-start.auto.classes)

pub loop-start-preserved : goal.loop-start-preserved
loop-start-preserved g c =
    let at = goal.at.loop-start-preserved g c in
    let fits = room g at.In-Some in
    let kept = IsSkimmed-kept _ _ _ _ _ _ _ _ _ _ c.loop-start.invariant c.write_low_block-idle.new.classes c.write_low_block-idle.ensures.outside in
    let part = IsSkimmed-part (g.D.BidiDataSource.source c.args.data_source.now) g.T.TextSource.encoding.len_of (has c.args.sought) g.T.TextSource.encoding.positive (g.T.TextSource.text c.args.text).chars c.args.progress.now.at c.loop-start.start c.requires.place.begins
    c.args.classes.now c.write_low_block-idle.new.classes _ _ kept c.in-Some.block (omega (arith, fits, c.write_low_block-idle.auto.classes)) c.in-Some.ensures.characters c.write_low_block-idle.result c.write_low_block-idle.ensures.within c.write_low_block-idle.ensures.written c.write_low_block-idle.ensures.idle in
    rw (same g at.After-write_low_block-idle) at part
