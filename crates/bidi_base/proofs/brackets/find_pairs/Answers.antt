use Rattle.bidi_base.proofs.Common.{◌≡◌, [], refl, sym, ◌∙◌, arith, nil_from_length, counted_brackets, bracket_pairs, found_brackets}
use Rattle.bidi_base.proofs.BracketSearch.{IsAt-start, IsAt-end}
use Rattle.bidi_base.proofs.brackets.find_pairs.Goals as goal

pub returns-then-is_empty : goal.returns-then-is_empty
unfolding found_brackets bracket_pairs
returns-then-is_empty c = λ classes sources is.
    let counted = counted_brackets classes sources in
    let none : c.args.brackets.now ≡ [] = grind (arith, nil_from_length) in
    c.clear.ensures.items ∙ IsAt-end counted [] [] (IsAt-start counted [] [] [] refl refl (sym none ∙ is))
