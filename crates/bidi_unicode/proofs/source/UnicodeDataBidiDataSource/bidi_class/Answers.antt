use Rattle.bidi_unicode.specs.Unicode.{unicode_source}
use Rattle.bidi_unicode.proofs.LowClasses.{LOW_CLASSES-class}
use Rattle.bidi_unicode.proofs.source.UnicodeDataBidiDataSource.bidi_class.Goals as goal

pub returns-then-at-lt2048 : goal.returns-then-at-lt2048
unfolding unicode_source
returns-then-at-lt2048 c = LOW_CLASSES-class c.args.c c.if-at-lt2048.true
