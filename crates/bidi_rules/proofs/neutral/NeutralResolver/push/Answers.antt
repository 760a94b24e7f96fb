use Rattle.bidi_base.proofs.Common.{◌∷◌, ◌++◌, [], Option, sym, subst, ◌∙◌, brackets_from, HasRead}
use Rattle.bidi_base.specs.declared.data_source.BidiMatchedOpeningBracket.{BidiMatchedOpeningBracket}
use Rattle.bidi_rules.proofs.neutral.NeutralResolver.push.Goals as goal

pub returns-in_ok-read : goal.returns-in_ok-read
returns-in_ok-read g c = λ before h.
    subst (λ (o : Option BidiMatchedOpeningBracket). HasRead c.read.new.self (before ++ brackets_from c.args.at (o ∷ []))) (sym c.in-Some.is ∙ c.bidi_matched_opening_bracket.ensures) (c.in_ok-read.ensures before h)
