use Rattle.bidi_base.proofs.Common.{◌∙◌, length, arith, rules, length_push}
use Rattle.bidi_laws.proofs.LayoutLemmas.{first_line-one, first_line-stops, first_line-all, unit_index-turn}
use Rattle.bidi_base.proofs.UnitIndexLemmas.{CharTurn, index_turn, index_end}
use Rattle.unicode_bidi.proofs.layout.first_line_len.Goals as goal
use Rattle.unicode_bidi.proofs.layout.first_line_len.Goals.{In-Some, then-at-eq0, else-at-eq0}
use Rattle.unicode_bidi.proofs.layout.first_line_len.Given.{Over}

-- the character that comes
turn_of : (g : Over) (c : In-Some g) → CharTurn g.T.TextSource.encoding.len_of (g.T.TextSource.text c.args.text).chars (length c.loop-at.yielded) c.in-Some.at c.in-Some.c
turn_of g c = search (rules, index_turn)

pub returns-then-width-left : goal.returns-then-width-left
returns-then-width-left g c =
    let w = turn_of g (goal.at.returns-then-width-left g c).In-Some in
    elim c.if-at-eq0.branch [
      | then-at-eq0 v ↦
          v.result-is ∙ v.char_len.ensures
          ∙ first_line-one _ c.args.limit _ g.T.TextSource.encoding.positive _ _ _ _ c.loop-at.left w c.loop-at.invariant.2 (omega (arith, c.width-width.ensures, c.if-width-left.true)) v.if-at-eq0.true
      | else-at-eq0 v ↦
          v.result-is
          ∙ first_line-stops _ c.args.limit _ g.T.TextSource.encoding.positive _ _ _ _ c.loop-at.left w c.loop-at.invariant.2 (omega (arith, c.width-width.ensures, c.if-width-left.true)) v.if-at-eq0.false
    ]

pub loop-at-preserved : goal.loop-at-preserved
loop-at-preserved g c =
    let next = unit_index-turn (g.W.CharWidth.width_of c.args.widths.now) g.T.TextSource.encoding.len_of (g.T.TextSource.text c.args.text).chars (length c.loop-at.yielded) _ _ (turn_of g (goal.at.loop-at-preserved g c).In-Some) in (
      c.in-Some.ensures.goes.keeps,
      (c.in-Some.ensures.goes.on c.loop-at.invariant.1).1,
      rw (length_push c.loop-at.yielded (c.in-Some.at, c.in-Some.c))
          (omega (arith, next, c.loop-at.invariant.2, c.width-width.ensures, c.if-width-left.false)),
    )

pub returns : goal.returns
returns g c =
    let all = index_end g.T.TextSource.encoding.len_of (g.T.TextSource.text c.args.text).chars c.char_indices-at-items.ensures c.into_iter-at-iterator.ensures.into_iter_gives c.loop-at.yielded _ c.loop-at.yielded_by _ _ c.in-None.is c.next.ensures.steps in
    c.len.ensures
    ∙ first_line-all (g.W.CharWidth.width_of c.args.widths.now) c.args.limit g.T.TextSource.encoding.len_of g.T.TextSource.encoding.positive _ _ c.loop-at.left all c.loop-at.invariant.2
