-- Whether the search goes on or is over, the pairs are those of the brackets read.
use Rattle.bidi_base.proofs.Common.{◌∙◌, counted_brackets, bracket_pairs, found_brackets}
use Rattle.bidi_base.proofs.BracketSearch.{HasRead-end}
use Rattle.bidi_base.proofs.brackets.PairSearch.finish.Goals as goal

pub returns : goal.returns
unfolding found_brackets bracket_pairs
returns c = λ all read classes brackets is. c.as_slice.ensures.value ∙ c.drop_unclosed.ensures ∙ HasRead-end c.args.self.now all read (counted_brackets classes brackets) is
