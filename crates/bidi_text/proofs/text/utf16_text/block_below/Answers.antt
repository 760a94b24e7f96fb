use Rattle.bidi_base.proofs.Common.{◌≡◌, take, length, length-take, arith}
use mir.Syntax.{w16}
use Rattle.bidi_text.proofs.BlockLemmas.{all_below, get_or-block}
use Rattle.bidi_text.proofs.text.utf16_text.block_below.Goals as goal

pub returns-then-others-eq0 : goal.returns-then-others-eq0
returns-then-others-eq0 c =
    let rest = c.in_ok-rest.rest.now in
    let lookup = c.in_ok-rest.ensures.lookup.0 in
    let long : length (take 16 rest) ≡ 16 = omega (arith, length-take 16 rest, c.if-rest-lt16.false) in (
      omega (arith, c.if-rest-lt16.false, lookup.3),
      long,
      λ k below. (get_or-block c.args.units.now rest c.args.index k lookup.2 below, all_below w16 c.args.limit (take 16 rest) long c.if-others-eq0.true k below),
    )
