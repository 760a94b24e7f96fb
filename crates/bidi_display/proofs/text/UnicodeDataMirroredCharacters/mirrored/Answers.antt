use Rattle.bidi_display.proofs.MirrorLemmas.{partner-short}
use Rattle.bidi_display.proofs.text.UnicodeDataMirroredCharacters.mirrored.Goals as goal

pub returns-clause-length : goal.returns-clause-length
returns-clause-length c = partner-short c.args.c c.unwrap_or.result c.mirrored.result c.mirrored.ensures.partner c.mirrored.ensures.mirrored c.unwrap_or.ensures
