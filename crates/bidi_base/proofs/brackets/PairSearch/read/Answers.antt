use Rattle.bidi_base.proofs.Common.{not, refl}
use Rattle.bidi_base.proofs.BracketSearch.{HasRead-next}
use Rattle.bidi_base.proofs.brackets.PairSearch.read.Goals as goal

pub returns-in_ok-goes_on : goal.returns-in_ok-goes_on
returns-in_ok-goes_on c = λ before h.
    let e = c.in_ok-goes_on.ensures in
    let more = c.in_ok-goes_on.goes_on in
    HasRead-next before c.args.bracket.now c.args.self.now (record { waiting = c.read.new.waiting; pairs = c.read.new.pairs; is_over = not more }) h c.if-not-self.true e.within more refl
    (λ yes' counted rest at. e.goes_on yes' counted rest at) (λ no' counted rest at. e.ended no' counted rest at)
