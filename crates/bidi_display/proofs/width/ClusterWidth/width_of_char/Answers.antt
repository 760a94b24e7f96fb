use Rattle.bidi_base.proofs.Common.{ap, ◌∙◌, chars, IsUtf8, subst}
use Rattle.unicode_segmentation.proofs.TextLemmas.{chars-encode_utf8}
use Rattle.bidi_display.proofs.width.ClusterWidth.width_of_char.Goals as goal

pub returns : goal.returns
returns g c = c.width.ensures ∙ ap (g.Self.ClusterWidth.width_of c.args.self.now) (ap chars c.encode_utf8.ensures.value ∙ chars-encode_utf8 c.args.c (subst IsUtf8 c.encode_utf8.ensures.value c.encode_utf8.utf8))
