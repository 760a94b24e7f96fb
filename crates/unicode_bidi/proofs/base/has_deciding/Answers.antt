use Rattle.bidi_base.proofs.Common.{◌≡◌, ◌∙◌, ◌+◌, ◌++◌, ◌∷◌, [], ℕ, List, length, map, sym, ap, arith, rules, length_push, drop_all, unit_index}
use Rattle.std.specs.Prelude.{is_some}
use Rattle.bidi_base.specs.declared.char_data.BidiClass.{BidiClass}
use Rattle.bidi_base.proofs.TextLemmas.{length-le-text_len}
use Rattle.bidi_base.proofs.UnitIndexLemmas.{char_turn, char_end, CharTurn}
use Rattle.bidi_laws.proofs.IsolateWalk.{deciding_class-from}
use Rattle.unicode_bidi.proofs.DecidingSteps.{decides-found, decides-passed}
use Rattle.unicode_bidi.proofs.SearchLemmas.{depth_after-le}
use Rattle.unicode_bidi.proofs.base.has_deciding.Given.{Over}
use Rattle.unicode_bidi.proofs.base.has_deciding.Goals as goal
use Rattle.unicode_bidi.proofs.base.has_deciding.Goals.{In-Some}

-- the character that comes
turn_of : (g : Over) (c : In-Some g)
    → CharTurn g.T.TextSource.encoding.len_of (g.T.TextSource.text c.args.text).chars (length c.loop-c.yielded) (unit_index g.T.TextSource.encoding.len_of (g.T.TextSource.text c.args.text).chars (length c.loop-c.yielded)) c.in-Some.c
turn_of g c = search (rules, char_turn)

pub returns-then-decides : goal.returns-then-decides
returns-then-decides g c =
    let f : ℕ → BidiClass = (g.D.BidiDataSource.source c.args.data_source.now).class_of in
    let cs : List ℕ = (g.T.TextSource.text c.args.text).chars in
    let w = turn_of g (goal.at.returns-then-decides g c).In-Some in
    sym (ap is_some (deciding_class-from (map f cs) ∙ c.loop-c.invariant.3)
    ∙ decides-found f cs (length c.loop-c.yielded) c.in-Some.c w.next c.bidi_class-class.result c.bidi_class-class.ensures c.loop-c.depth (sym c.decides.ensures ∙ c.if-decides.true))

pub depth_after-depth-requires : goal.depth_after-depth-requires
depth_after-depth-requires g c =
    let w = turn_of g (goal.at.depth_after-depth-requires g c).In-Some in
    omega (arith, w.within, c.loop-c.invariant.2, length-le-text_len g.T.TextSource.encoding.len_of g.T.TextSource.encoding.positive (g.T.TextSource.text c.args.text).chars)

pub loop-c-preserved : goal.loop-c-preserved
loop-c-preserved g c =
    let f : ℕ → BidiClass = (g.D.BidiDataSource.source c.args.data_source.now).class_of in
    let cs : List ℕ = (g.T.TextSource.text c.args.text).chars in
    let n : ℕ = length c.loop-c.yielded in
    let w = turn_of g (goal.at.loop-c-preserved g c).In-Some in
    let longer : length (c.loop-c.yielded ++ c.in-Some.c ∷ []) ≡ n + 1 = length_push c.loop-c.yielded c.in-Some.c in
    let on = decides-passed f cs n c.in-Some.c w.next c.bidi_class-class.result c.bidi_class-class.ensures c.loop-c.depth (sym c.decides.ensures ∙ c.if-decides.false) in (
      c.in-Some.ensures.goes.keeps,
      (c.in-Some.ensures.goes.on c.loop-c.invariant.1).1,
      omega (arith, c.depth_after-depth.ensures, depth_after-le c.loop-c.depth c.bidi_class-class.result, longer, c.loop-c.invariant.2),
      rw (longer, c.depth_after-depth.ensures) (c.loop-c.invariant.3 ∙ on),
    )

pub returns : goal.returns
returns g c =
    let f : ℕ → BidiClass = (g.D.BidiDataSource.source c.args.data_source.now).class_of in
    let cs : List ℕ = (g.T.TextSource.text c.args.text).chars in
    let n : ℕ = length c.loop-c.yielded in
    let all : n ≡ length cs = char_end cs c.chars-c-items.ensures c.into_iter-c-iterator.ensures.into_iter_gives c.loop-c.yielded _ c.loop-c.yielded_by _ _ c.in-None.is c.next.ensures.steps in
    let rest = rw (drop_all n cs (omega arith)) at c.loop-c.invariant.3 in
    sym (ap is_some (deciding_class-from (map f cs) ∙ rest))
