use Rattle.bidi_base.proofs.Common.{arith, nat_tests}
use Rattle.bidi_text.specs.ClassText.{char_bracket}
use Rattle.bidi_text.proofs.text.class_text.ClassDataBidiDataSource.bidi_matched_opening_bracket.Goals as goal

pub returns-then-code-lt-FIRST_BRACKET : goal.returns-then-code-lt-FIRST_BRACKET
unfolding char_bracket
returns-then-code-lt-FIRST_BRACKET c = grind (arith, nat_tests)

pub returns-in_err-opening : goal.returns-in_err-opening
unfolding char_bracket
returns-in_err-opening c = grind (arith, nat_tests)

pub returns : goal.returns
unfolding char_bracket
returns c = grind (arith, nat_tests)
