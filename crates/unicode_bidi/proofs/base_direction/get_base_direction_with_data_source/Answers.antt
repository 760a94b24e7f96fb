use Rattle.bidi_base.proofs.Common.{arith}
use Rattle.bidi_laws.proofs.DirectionWalk.{base_direction-Rtl}
use Rattle.unicode_bidi.proofs.base_direction.get_base_direction_with_data_source.Goals as goal

pub returns-clause-level : goal.returns-clause-level
returns-clause-level g c = grind (arith, base_direction-Rtl)
