use Rattle.bidi_base.proofs.Common.{◌≡◌, ◌∙◌, ◌+◌, ℕ, List, length, drop, refl, sym, arith, rules, length_push, unit_index}
use Rattle.bidi_base.proofs.UnitIndexLemmas.{CharTurn, index_turn, index_end, unit_index-end}
use Rattle.bidi_paragraphs.proofs.Skimmed.{IsSkimmed-start, IsSkimmed-more, IsStop-next}
use Rattle.bidi_paragraphs.proofs.first_pass.other_characters.read_to_sought.Given.{Over}
use Rattle.bidi_paragraphs.proofs.first_pass.other_characters.read_to_sought.Goals as goal
use Rattle.bidi_paragraphs.proofs.first_pass.other_characters.read_to_sought.Goals.{In-Some}

pub loop-start-init : goal.loop-start-init
unfolding IsSkimmed-start
loop-start-init g c = (
  rw c.into_iter-start-iterator.ensures.into_iter_gives c.char_indices-start-items.ensures.can_next,
  rw c.into_iter-start-iterator.ensures.into_iter_gives c.char_indices-start-items.ensures.finite,
  λ flags each. (IsSkimmed-start _ _ _ _ _ _ flags, refl),
)

-- the character that comes
turn_of : (g : Over) (c : In-Some g) → CharTurn g.T.TextSource.encoding.len_of (g.T.TextSource.text c.args.block).chars (length c.loop-start.yielded) c.in-Some.start c.in-Some.c
turn_of g c = search (rules, index_turn)

pub write-requires : goal.write-requires
write-requires g c = omega (arith, (turn_of g (goal.at.write-requires g c).In-Some).fits, c.requires, c.loop-start.auto.classes)

pub returns-then-has : goal.returns-then-has
returns-then-has g c flags each =
    let w = turn_of g (goal.at.returns-then-has g c).In-Some in
    let h = c.loop-start.invariant.2 flags each in
    IsStop-next _ _ _ _ _ _ _ _ _ _ h.0 _ (drop (length c.loop-start.yielded + 1) (g.T.TextSource.text c.args.block).chars) c.write.new.classes (h.1 ∙ w.next) w.at_place c.bidi_class-class.ensures c.char_len-len.ensures c.write.ensures

pub loop-start-preserved : goal.loop-start-preserved
unfolding IsSkimmed-more
loop-start-preserved g c =
    let cs : List ℕ = (g.T.TextSource.text c.args.block).chars in
    let n : ℕ = length c.loop-start.yielded in
    let w = turn_of g (goal.at.loop-start-preserved g c).In-Some in
    let class = c.bidi_class-class.ensures in
    let other = sym c.has.ensures ∙ c.if-has.false in (
      c.in-Some.ensures.goes.keeps,
      (c.in-Some.ensures.goes.on c.loop-start.invariant.1).1,
      λ flags each.
          let h = c.loop-start.invariant.2 flags each in
          let more = IsSkimmed-more _ _ _ _ _ _ _ _ _ _ h.0 c.in-Some.c (drop (n + 1) cs) (unit_index g.T.TextSource.encoding.len_of cs (n + 1)) c.write.new.classes flags (h.1 ∙ w.next)
          (rw class at other) (omega (arith, w.after, w.at_place)) (cc (w.after, c.write.ensures, w.at_place, class)) (rw class at (each _ other)) in
          rw (length_push c.loop-start.yielded (c.in-Some.start, c.in-Some.c)) (more, refl),
    )

pub returns : goal.returns
returns g c flags each =
    let cs : List ℕ = (g.T.TextSource.text c.args.block).chars in
    let all : length c.loop-start.yielded ≡ length cs = search (rules, index_end) in
    rw (unit_index-end g.T.TextSource.encoding.len_of cs (length c.loop-start.yielded) (omega (arith, all))) at (c.loop-start.invariant.2 flags each).0
