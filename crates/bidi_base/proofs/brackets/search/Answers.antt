use Rattle.bidi_base.proofs.Common.{◌+◌, false, drop, ◌∙◌, arith, drop_more, drop_all, All-nil, counted_brackets, bracket_pairs, found_brackets}
use Rattle.bidi_base.proofs.BracketSearch.{IsAt-start, IsAt-end}
use Rattle.bidi_base.proofs.brackets.search.Goals as goal
use Rattle.bidi_base.proofs.brackets.search.Goals.{else-loop-bracket-test, then-loop-bracket-test+in_ok-goes_on+then-not-goes_on}

pub loop-bracket-init : goal.loop-bracket-init
loop-bracket-init c = grind (arith, All-nil, IsAt-start)

pub loop-bracket-preserved : goal.loop-bracket-preserved
loop-bracket-preserved c = record {
  within = c.in_ok-goes_on.ensures.within;
  found = λ counted is. c.in_ok-goes_on.ensures.goes_on c.if-not-goes_on.false counted (drop (c.loop-bracket.bracket-index + 1) c.args.brackets.now)
      (rw (drop_more c.args.brackets.now c.loop-bracket.bracket-index (record { index = 0; opening = 0; is_open = false }) c.loop-bracket-test.true) at (c.loop-bracket.invariant.found counted is));
}

pub returns : goal.returns
unfolding found_brackets bracket_pairs
returns c = λ classes sources is.
    let s = c.loop-bracket in
    let counted = counted_brackets classes sources in
    let at = s.invariant.found counted is in
    c.drop_unclosed.ensures ∙ elim c.loop-bracket-test.branch [
      | else-loop-bracket-test w ↦
          rw w.pairs-is (IsAt-end counted s.pairs.items s.waiting.items (rw (drop_all s.bracket-index c.args.brackets.now (omega (arith, w.loop-bracket-test.false))) at at))
      | then-loop-bracket-test+in_ok-goes_on+then-not-goes_on w ↦
          rw w.pairs-is (w.in_ok-goes_on.ensures.ended w.if-not-goes_on.true counted (drop (s.bracket-index + 1) c.args.brackets.now)
          (rw (drop_more c.args.brackets.now s.bracket-index (record { index = 0; opening = 0; is_open = false }) w.loop-bracket-test.true) at at))
    ]
