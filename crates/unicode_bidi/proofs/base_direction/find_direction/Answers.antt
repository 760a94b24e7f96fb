use Rattle.bidi_base.proofs.Common.{◌∙◌, refl, sym, ap, arith}
use Rattle.unicode_bidi.specs.DirectionSearch.{direction_found}
use Rattle.unicode_bidi.proofs.base_direction.find_direction.Goals as goal

pub search_direction-requires : goal.search_direction-requires
search_direction-requires g c = grind arith

pub returns-in-Found : goal.returns-in-Found
returns-in-Found g c = ap direction_found (sym c.in-Found.is) ∙ c.search_direction.ensures.direction refl

pub returns-in-Open : goal.returns-in-Open
returns-in-Open g c = ap direction_found (sym c.in-Open.is) ∙ c.search_direction.ensures.direction refl
