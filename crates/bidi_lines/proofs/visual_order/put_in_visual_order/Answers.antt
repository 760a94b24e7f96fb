use Rattle.bidi_base.proofs.Common.{◌≡◌, length, arith, ◌∙◌, sym, subst, length-range_with_len, get_or-range_with_len, IsVisualOrder}
use Rattle.bidi_lines.proofs.Ordered.{visual-from_arranged, visual_law, visual-still, none_odd}
use Rattle.bidi_lines.proofs.visual_order.put_in_visual_order.Goals as goal

pub arrange-requires-clause-same_len : goal.arrange-requires-clause-same_len
arrange-requires-clause-same_len g c = grind (arith, length-range_with_len)

pub arrange-requires-clause-untouched : goal.arrange-requires-clause-untouched
arrange-requires-clause-untouched g c p a b = grind (arith, get_or-range_with_len)

pub returns-then-has_rtl : goal.returns-then-has_rtl
returns-then-has_rtl g c =
    let all : c.arrange.result ≡ length (g.L.LevelList.numbers c.args.levels) = grind (arith, c.arrange.ensures.stops) in
    let v = visual-from_arranged _ _ (rw c.requires at c.arrange.ensures.permutation) (rw all at c.arrange.ensures.arranged) in
    grind (arith, visual_law v)

pub returns-else-has_rtl : goal.returns-else-has_rtl
returns-else-has_rtl g c =
    let v = subst (IsVisualOrder (g.L.LevelList.numbers c.args.levels)) (sym c.requires) (visual-still (g.L.LevelList.numbers c.args.levels) (none_odd (g.L.LevelList.numbers c.args.levels) (sym c.has_rtl.ensures ∙ c.if-has_rtl.false))) in
    grind (arith, visual_law v)
