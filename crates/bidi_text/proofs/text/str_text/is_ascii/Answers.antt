use Rattle.bidi_base.proofs.Common.{eqb-true, w8}
use Rattle.bidi_text.proofs.BlockLemmas.{all_below}
use Rattle.bidi_text.proofs.text.str_text.is_ascii.Goals as goal

pub returns : goal.returns
returns c none = all_below w8 128 c.args.block c.requires (eqb-true _ _ none)
