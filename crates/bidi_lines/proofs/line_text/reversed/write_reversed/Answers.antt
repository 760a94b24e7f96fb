use Rattle.bidi_base.proofs.Common.{arith, common_steps}
use Rattle.bidi_base.proofs.PlacesLemmas.{reverse-take_more}
use Rattle.std.proofs.lemmas.Grind.{drop-set_at}
use Rattle.bidi_lines.proofs.line_text.reversed.write_reversed.Goals as goal

pub loop-at-preserved : goal.loop-at-preserved
loop-at-preserved g c = grind (arith, common_steps, reverse-take_more, drop-set_at)
