use Rattle.bidi_base.proofs.Common.{false, refl, arith}
use Rattle.bidi_paragraphs.specs.FirstPass.{ahead}
use Rattle.bidi_paragraphs.proofs.Skimmed.{char-room, IsSkimmed-start, IsStop-char}
use Rattle.bidi_paragraphs.proofs.first_pass.other_characters.read_next.Goals as goal

pub write_at_once-requires-clause-fits : goal.write_at_once-requires-clause-fits
write_at_once-requires-clause-fits g c =
    let none = IsSkimmed-start (g.D.BidiDataSource.source c.args.data_source.now) g.T.TextSource.encoding.len_of (λ class. false) (ahead g.T.TextSource.encoding.len_of (g.T.TextSource.text c.args.text).chars c.args.start) c.args.start c.args.classes.now (record { seen = record { bits = 0 } }) in
    let room = char-room _ _ _ _ _ _ _ _ _ _ none g.T.TextSource.encoding.positive (g.T.TextSource.text c.args.text).chars c.requires.begins refl _ _ c.next_at-c.ensures in
    omega (arith, room.long, room.fits, c.requires.same_len)

pub returns : goal.returns
returns g c = λ stop_classes flags.
    let none = IsSkimmed-start (g.D.BidiDataSource.source c.args.data_source.now) g.T.TextSource.encoding.len_of stop_classes (ahead g.T.TextSource.encoding.len_of (g.T.TextSource.text c.args.text).chars c.args.start) c.args.start c.args.classes.now flags in
    IsStop-char _ _ _ _ _ _ _ _ _ _ none g.T.TextSource.encoding.positive (g.T.TextSource.text c.args.text).chars c.requires.begins refl
    _ _ c.next_at-c.ensures _ c.bidi_class-class.ensures _ c.write_at_once.ensures
