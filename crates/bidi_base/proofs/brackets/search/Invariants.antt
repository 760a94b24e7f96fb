use Rattle.bidi_base.proofs.Common.{◌≡◌, length, drop, List, Option, BidiMatchedOpeningBracket, brackets_from, AreWithin, IsAt}
use Rattle.bidi_base.proofs.brackets.search.Given as goal

abbrev pub invariant-loop-bracket : goal.invariant-loop-bracket
invariant-loop-bracket l = record {
  within : AreWithin (length l.pairs.items) l.waiting.items;
  found : (counted : List (Option BidiMatchedOpeningBracket)) → l.fn.brackets ≡ brackets_from 0 counted → IsAt counted l.pairs.items l.waiting.items (drop l.bracket-index l.fn.brackets);
}
