use Rattle.bidi_base.proofs.Common.{◌≡◌, ◌∙◌, ◌+◌, ◌-◌, ◌≤◌, drop, length-take, length-drop, ◌++◌, ◌∷◌, [], ℕ, List, length, take, sym, ap, arith, rules, length_push, unit_index, take_all}
use Rattle.bidi_base.proofs.UnitIndexLemmas.{CharTurn, char_turn, char_end, unit_index-end}
use Rattle.bidi_calls.specs.Characters.{numbers_of}
use Rattle.bidi_calls.proofs.CharacterLemmas.{written_more}
use Rattle.bidi_calls.proofs.characters.write_each.Given.{Over}
use Rattle.bidi_calls.proofs.characters.write_each.Goals as goal
use Rattle.bidi_calls.proofs.characters.write_each.Goals.{In-Some}

-- the character that comes
turn_of : (g : Over) (c : In-Some g)
    → CharTurn g.T.TextSource.encoding.len_of (g.T.TextSource.text c.args.text).chars (length c.loop-c.yielded) (unit_index g.T.TextSource.encoding.len_of (g.T.TextSource.text c.args.text).chars (length c.loop-c.yielded)) c.in-Some.c
turn_of g c = search (rules, char_turn)

pub overflow_add-end : goal.overflow_add-end
overflow_add-end g c =
    let w = turn_of g (goal.at.overflow_add-end g c).In-Some in
    let within : c.loop-c.at + c.char_len.result ≤ length c.loop-c.out = omega (arith, w.fits, c.loop-c.invariant.2, c.requires, c.loop-c.auto.out) in
    search rules

pub slice_bounds-fill-end : goal.slice_bounds-fill-end
slice_bounds-fill-end g c =
    let w = turn_of g (goal.at.slice_bounds-fill-end g c).In-Some in
    omega (arith, w.fits, c.loop-c.invariant.2, c.requires, c.loop-c.auto.out)

pub loop-c-preserved : goal.loop-c-preserved
loop-c-preserved g c =
    let chars : List ℕ = (g.T.TextSource.text c.args.text).chars in
    let len_of = g.T.TextSource.encoding.len_of in
    let number = g.N.Numbering.number (g.D.BidiDataSource.source c.args.data_source.now) in
    let n : ℕ = length c.loop-c.yielded in
    let w = turn_of g (goal.at.loop-c-preserved g c).In-Some in
    let longer : length (c.loop-c.yielded ++ c.in-Some.c ∷ []) ≡ n + 1 = length_push c.loop-c.yielded c.in-Some.c in
    let end : c.loop-c.at + c.char_len.result ≡ c.loop-c.at + len_of c.in-Some.c = omega (arith, c.char_len.ensures) in
    let fits : c.loop-c.at + len_of c.in-Some.c ≤ length c.loop-c.out = omega (arith, w.fits, c.loop-c.invariant.2, c.requires, c.loop-c.auto.out) in
    let own = take (c.loop-c.at + c.char_len.result - c.loop-c.at) (drop c.loop-c.at c.loop-c.out) in
    let size : length own ≡ len_of c.in-Some.c = omega (arith, fits, end, length-take (c.loop-c.at + c.char_len.result - c.loop-c.at) (drop c.loop-c.at c.loop-c.out), length-drop c.loop-c.at c.loop-c.out) in
    let same = rw (size, c.number.ensures) at c.fill.ensures in
    let here = rw (← c.loop-c.invariant.2) at w in
    rw longer (
      c.in-Some.ensures.goes.keeps,
      (c.in-Some.ensures.goes.on c.loop-c.invariant.1).1,
      omega (arith, w.after, end, c.loop-c.invariant.2),
      written_more number len_of chars n c.loop-c.at c.in-Some.c here c.loop-c.out c.fill.new.out _ _ (omega (arith, fits)) end same c.loop-c.invariant.3,
    )

pub returns : goal.returns
returns g c =
    let chars : List ℕ = (g.T.TextSource.text c.args.text).chars in
    let n : ℕ = length c.loop-c.yielded in
    let all : n ≡ length chars = char_end chars c.chars-c-items.ensures c.into_iter-c-iterator.ensures.into_iter_gives c.loop-c.yielded _ c.loop-c.yielded_by _ _ c.in-None.is c.next.ensures.steps in
    let whole : take n chars ≡ chars = take_all n chars (omega (arith, all)) in
    let ends : length c.loop-c.out ≤ c.loop-c.at = omega (arith, c.loop-c.invariant.2, unit_index-end g.T.TextSource.encoding.len_of chars n (omega (arith, all)), c.requires, c.loop-c.auto.out) in
    let number = g.N.Numbering.number (g.D.BidiDataSource.source c.args.data_source.now) in
    sym (take_all c.loop-c.at c.loop-c.out ends) ∙ c.loop-c.invariant.3 ∙ ap (numbers_of number g.T.TextSource.encoding.len_of) whole
