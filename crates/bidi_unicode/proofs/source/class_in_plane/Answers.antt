use Rattle.bidi_unicode.specs.Unicode.{unicode_source}
use Rattle.bidi_unicode.proofs.PlaneClasses.{class_place-fits, BLOCK_CLASSES-class}
use Rattle.bidi_unicode.proofs.source.class_in_plane.Goals as goal

pub bounds-c-2 : goal.bounds-c-2
bounds-c-2 c = class_place-fits c.args.c c.requires

pub returns : goal.returns
unfolding unicode_source
returns c = BLOCK_CLASSES-class c.args.c c.requires
