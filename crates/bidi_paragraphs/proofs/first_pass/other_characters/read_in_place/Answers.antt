use Rattle.bidi_base.proofs.Common.{refl, sym, ◌∙◌, arith}
use Rattle.bidi_paragraphs.proofs.Skimmed.{char-room, IsSkimmed-start, is_boundary-skimmed, IsSkimmed-char, IsStop-char}
use Rattle.bidi_paragraphs.proofs.first_pass.other_characters.read_in_place.Goals as goal

pub loop-start-init : goal.loop-start-init
loop-start-init g c = IsSkimmed-start _ _ _ _ _ _ _

pub next_at-c-requires-clause-begins : goal.next_at-c-requires-clause-begins
next_at-c-requires-clause-begins g c = is_boundary-skimmed _ _ _ _ _ _ _ _ _ _ c.loop-start.invariant g.T.TextSource.encoding.positive (g.T.TextSource.text c.args.text).chars c.requires.seek.place.begins refl

pub write_at_once-requires-clause-fits : goal.write_at_once-requires-clause-fits
write_at_once-requires-clause-fits g c =
    let room = char-room _ _ _ _ _ _ _ _ _ _ c.loop-start.invariant g.T.TextSource.encoding.positive (g.T.TextSource.text c.args.text).chars c.requires.seek.place.begins refl _ _ c.next_at-c.ensures in
    omega (arith, room.long, room.fits, c.requires.seek.place.sized, c.loop-start.auto.classes)

pub returns-then-has-clause-stop : goal.returns-then-has-clause-stop
returns-then-has-clause-stop g c =
    IsStop-char _ _ _ _ _ _ _ _ _ _ c.loop-start.invariant g.T.TextSource.encoding.positive (g.T.TextSource.text c.args.text).chars c.requires.seek.place.begins refl
    _ _ c.next_at-c.ensures _ c.bidi_class-class.ensures _ c.write_at_once.ensures

pub overflow_add-start : goal.overflow_add-start
overflow_add-start g c =
    let room = char-room _ _ _ _ _ _ _ _ _ _ c.loop-start.invariant g.T.TextSource.encoding.positive (g.T.TextSource.text c.args.text).chars c.requires.seek.place.begins refl _ _ c.next_at-c.ensures in
    omega (arith, c.well_formed, room.fits, c.requires.seek.place.sized)

pub loop-start-smaller : goal.loop-start-smaller
loop-start-smaller g c =
    let room = char-room _ _ _ _ _ _ _ _ _ _ c.loop-start.invariant g.T.TextSource.encoding.positive (g.T.TextSource.text c.args.text).chars c.requires.seek.place.begins refl _ _ c.next_at-c.ensures in
    omega (arith, room.some)

pub loop-start-preserved : goal.loop-start-preserved
loop-start-preserved g c =
    let other = sym c.has.ensures ∙ c.if-has.false in
    IsSkimmed-char _ _ _ _ _ _ _ _ _ _ c.loop-start.invariant g.T.TextSource.encoding.positive (g.T.TextSource.text c.args.text).chars c.requires.seek.place.begins refl
    _ _ c.next_at-c.ensures _ c.bidi_class-class.ensures _ c.write_at_once.ensures _ other (c.requires.seek.sought _ other)
