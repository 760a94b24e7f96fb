use Rattle.bidi_base.proofs.Common.{◌∙◌, ◌<◌, Some, length, refl, sym, ap, arith}
use Rattle.bidi_paragraphs.proofs.Skimmed.{IsSkimmed-start, IsSkimmed-ascii, IsStop-ascii, ascii-inside}
use Rattle.bidi_paragraphs.proofs.first_pass.ascii_characters.skim_each.Goals as goal
use Rattle.bidi_paragraphs.proofs.first_pass.ascii_characters.skim_each.Given.{Over}
use Rattle.bidi_paragraphs.proofs.first_pass.ascii_characters.skim_each.Goals.{In-Some}

-- the character that comes is within the text
within : (g : Over) (c : In-Some g) → c.loop-start.start < length c.loop-start.classes
within g c =
    let room = ascii-inside g.T.TextSource.encoding.len_of g.T.TextSource.encoding.positive (g.T.TextSource.text c.args.text).chars c.loop-start.start c.in-Some.byte (sym c.in-Some.is ∙ c.ascii_at.ensures) in
    omega (arith, room, c.loop-start.auto.classes, c.requires.place.sized)

pub loop-start-init : goal.loop-start-init
loop-start-init g c = IsSkimmed-start _ _ _ _ _ _ _

pub bounds-classes-start : goal.bounds-classes-start
bounds-classes-start g c = within g (goal.at.bounds-classes-start g c).In-Some

pub overflow_add-start : goal.overflow_add-start
overflow_add-start g c = omega (arith, within g (goal.at.overflow_add-start g c).In-Some, c.well_formed, c.loop-start.auto.classes)

pub loop-start-smaller : goal.loop-start-smaller
loop-start-smaller g c = omega (arith, within g (goal.at.loop-start-smaller g c).In-Some, c.loop-start.auto.classes)

pub returns-then-has : goal.returns-then-has
returns-then-has g c =
    IsStop-ascii _ _ _ _ _ _ _ _ _ _ c.loop-start.invariant g.T.TextSource.encoding.positive (g.T.TextSource.text c.args.text).chars c.requires.place.begins refl
    c.from-c.result (ap Some c.from-c.ensures ∙ sym c.in-Some.is ∙ c.ascii_at.ensures) _ c.bidi_class-class.ensures
    (c.loop-start.auto.classes ∙ c.requires.place.sized)

pub loop-start-preserved : goal.loop-start-preserved
loop-start-preserved g c =
    let source = g.D.BidiDataSource.source c.args.data_source.now in
    let is_byte = sym c.in-Some.is ∙ c.ascii_at.ensures in
    let other = sym c.has.ensures ∙ c.if-has.false in
    IsSkimmed-ascii _ _ _ _ _ _ _ _ _ _ c.loop-start.invariant g.T.TextSource.encoding.positive (g.T.TextSource.text c.args.text).chars c.requires.place.begins refl c.in-Some.byte is_byte c.bidi_class-class.result
    (c.bidi_class-class.ensures ∙ ap source.class_of c.from-c.ensures) (c.loop-start.auto.classes ∙ c.requires.place.sized) _ other (c.requires.sought _ other)
