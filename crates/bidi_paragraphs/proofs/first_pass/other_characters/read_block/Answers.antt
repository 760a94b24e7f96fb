use Rattle.bidi_base.proofs.Common.{◌≤◌, ap, length, arith, rules}
use Rattle.bidi_base.proofs.TextLemmas.{is_boundary-le}
use Rattle.bidi_paragraphs.proofs.Skimmed.{block-line, block-long, block-room, IsStop-within, IsSkimmed-block, IsStop-block}
use Rattle.bidi_paragraphs.proofs.first_pass.other_characters.read_block.Goals as goal

pub block_end-end-requires : goal.block_end-end-requires
block_end-end-requires g c = is_boundary-le g.T.TextSource.encoding.len_of (g.T.TextSource.text c.args.text).chars c.args.progress.now.at c.requires.place.begins

pub subrange-block-requires : goal.subrange-block-requires
subrange-block-requires g c =
    block-line _ g.T.TextSource.encoding.positive (g.T.TextSource.text c.args.text).chars c.args.progress.now.at c.block_end-end.result c.requires.place.begins c.block_end-end.ensures.begins c.block_end-end.ensures.boundary

pub slice_bounds-read_to_sought-count : goal.slice_bounds-read_to_sought-count
slice_bounds-read_to_sought-count g c = omega (arith, c.requires.place.sized, is_boundary-le g.T.TextSource.encoding.len_of (g.T.TextSource.text c.args.text).chars c.args.progress.now.at c.requires.place.begins)

pub slice_bounds-read_to_sought-start : goal.slice_bounds-read_to_sought-start
slice_bounds-read_to_sought-start g c =
    let inside : c.args.progress.now.at ≤ length c.args.classes.now = omega (arith, c.requires.place.sized, is_boundary-le g.T.TextSource.encoding.len_of (g.T.TextSource.text c.args.text).chars c.args.progress.now.at c.requires.place.begins) in
    search rules

pub read_to_sought-requires : goal.read_to_sought-requires
read_to_sought-requires g c =
    block-room _ g.T.TextSource.encoding.positive (g.T.TextSource.text c.args.text).chars c.args.progress.now.at c.block_end-end.result c.requires.place.begins c.block_end-end.ensures.begins c.block_end-end.ensures.boundary
    _ (ap (λ t. t.chars) c.subrange-block.ensures) c.args.classes.now c.requires.place.sized

pub overflow_add-place : goal.overflow_add-place
overflow_add-place g c =
    let long = block-long _ g.T.TextSource.encoding.positive (g.T.TextSource.text c.args.text).chars c.args.progress.now.at c.block_end-end.result c.requires.place.begins c.block_end-end.ensures.begins c.block_end-end.ensures.boundary _ (ap (λ t. t.chars) c.subrange-block.ensures) in
    omega (arith, IsStop-within _ _ _ _ 0 c.in-Some.stop _ _ _ _ (c.in-Some.ensures c.args.progress.now.flags c.requires.sought), long, c.block_end-end.type_inv)

pub returns-in-Some : goal.returns-in-Some
returns-in-Some g c =
    let room = block-room _ g.T.TextSource.encoding.positive (g.T.TextSource.text c.args.text).chars c.args.progress.now.at c.block_end-end.result c.requires.place.begins c.block_end-end.ensures.begins c.block_end-end.ensures.boundary _ (ap (λ t. t.chars) c.subrange-block.ensures) c.args.classes.now c.requires.place.sized in
    record {
      stop = IsStop-block _ g.T.TextSource.encoding.positive (g.T.TextSource.text c.args.text).chars c.args.progress.now.at c.block_end-end.result c.requires.place.begins c.block_end-end.ensures.begins c.block_end-end.ensures.boundary
          _ (ap (λ t. t.chars) c.subrange-block.ensures) c.args.classes.now c.requires.place.sized _ _ _ c.read_to_sought.new.classes _ _ _ (omega (arith, room, c.read_to_sought.auto.classes)) c.in-Some.stop (c.in-Some.ensures c.args.progress.now.flags c.requires.sought);
      passed = grind arith;
    }

pub returns : goal.returns
returns g c =
    let room = block-room _ g.T.TextSource.encoding.positive (g.T.TextSource.text c.args.text).chars c.args.progress.now.at c.block_end-end.result c.requires.place.begins c.block_end-end.ensures.begins c.block_end-end.ensures.boundary _ (ap (λ t. t.chars) c.subrange-block.ensures) c.args.classes.now c.requires.place.sized in
    record {
      stop = IsSkimmed-block _ g.T.TextSource.encoding.positive (g.T.TextSource.text c.args.text).chars c.args.progress.now.at c.block_end-end.result c.requires.place.begins c.block_end-end.ensures.begins c.block_end-end.ensures.boundary
          _ (ap (λ t. t.chars) c.subrange-block.ensures) c.args.classes.now c.requires.place.sized _ _ _ c.read_to_sought.new.classes _ _ _ (omega (arith, room, c.read_to_sought.auto.classes)) (c.in_default.ensures c.args.progress.now.flags c.requires.sought);
      passed = grind arith;
    }
