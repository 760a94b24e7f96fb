use Rattle.bidi_base.proofs.Common.{◌≡◌, ◌∙◌, List, ℕ, ap, arith, Range, subrange}
use Rattle.unicode_bidi.proofs.ParagraphUnits.{paragraph-IsPart, paragraph-written}
use Rattle.unicode_bidi.specs.Engine.{chars_of}
use Rattle.unicode_bidi.proofs.engine.write_paragraph.Goals as goal

pub slice_bounds-own-end : goal.slice_bounds-own-end
slice_bounds-own-end g c = grind (arith, paragraph-IsPart)

pub slice_bounds-write_levels-end : goal.slice_bounds-write_levels-end
slice_bounds-write_levels-end g c = grind (arith, paragraph-IsPart)

pub invariant_of-own : goal.invariant_of-own
invariant_of-own g c =
    let len = g.T.TextSource.encoding.len_of in
    let cs : List ℕ = (g.T.TextSource.text c.args.text.now.text).chars in
    let piece : (g.T.TextSource.text c.subrange.result).chars ≡ chars_of len cs c.args.paragraph.now = ap (λ t. t.chars) c.subrange.ensures ∙ ap (λ (r : Range ℕ). subrange len cs r.start r.end) c.range-units.ensures in
    record {
      low = rw c.level.ensures c.requires.paragraph.level;
      own_flags = rw piece c.requires.flags;
      stored = rw (piece, c.range-units.ensures) c.requires.paragraph.classes;
    }

pub write_levels-requires : goal.write_levels-requires
write_levels-requires g c = grind (arith, paragraph-IsPart)

pub returns : goal.returns
returns g c = grind (arith, paragraph-written)
