use Rattle.bidi_base.proofs.Common.{arith, nat_tests}
use Rattle.bidi_base.specs.declared.char_data.Direction.TheVariants.{Mixed}
use Rattle.unicode_bidi.specs.declared.direction_search.DirectionSearch.TheVariants.{Found, Open}
use Rattle.unicode_bidi.proofs.SearchLemmas.{step-searched}
use Rattle.unicode_bidi.proofs.direction_search.search_class.Goals as goal

pub returns-then-is_strong : goal.returns-then-is_strong
returns-then-is_strong c = step-searched c.args.full c.args.depth c.args.class (Found c.direction_of.result) (grind (arith, nat_tests))

pub returns-then-not-is_paragraph_separator : goal.returns-then-not-is_paragraph_separator
returns-then-not-is_paragraph_separator c = step-searched c.args.full c.args.depth c.args.class (Open c.depth_after.result) (grind (arith, nat_tests))

pub returns-then-full : goal.returns-then-full
returns-then-full c = step-searched c.args.full c.args.depth c.args.class (Open 0) (grind (arith, nat_tests))

pub returns-else-full : goal.returns-else-full
returns-else-full c = step-searched c.args.full c.args.depth c.args.class (Found Mixed) (grind (arith, nat_tests))
