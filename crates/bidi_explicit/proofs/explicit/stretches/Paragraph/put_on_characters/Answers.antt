-- One character after another: their units have one class, which is BN or takes the override.
use Rattle.bidi_base.proofs.Common.{◌≡◌, ℕ, ◌+◌, ◌<◌, ◌≤◌, sym, ap, ◌∙◌, arith, is_kept_in_place, class_at, char_index}
use Rattle.bidi_explicit.proofs.CharEnds.{Goes, goes}
use Rattle.bidi_explicit.proofs.ExplicitStretches.{IsOverridden-more, IsOverridden-spared}
use Rattle.bidi_explicit.proofs.explicit.stretches.Paragraph.put_on_characters.Given.{Over}
use Rattle.bidi_explicit.proofs.explicit.stretches.Paragraph.put_on_characters.Goals as goal
use Rattle.bidi_explicit.proofs.explicit.stretches.Paragraph.put_on_characters.Goals.{After-end_of-next}

next : (g : Over) (c : After-end_of-next g)
    → Goes (g.T.TextSource.text c.args.self.now.text) c.args.self.now.original_classes.now c.loop-at.at c.end_of-next.result c.args.to
next g c =
    goes (g.T.TextSource.text c.args.self.now.text) c.args.self.now.original_classes.now c.loop-at.at c.end_of-next.result c.args.to
    c.args.self.now.per_char c.loop-at.invariant.3 c.requires.ends c.loop-at-test.true (omega (arith, c.requires.within, c.args.self.now.long)) c.end_of-next.ensures

-- the class of its units before the override
was : (g : Over) (c : After-end_of-next g) (u : ℕ) → c.loop-at.at ≤ u → u < c.end_of-next.result → class_at c.args.classes.now u ≡ class_at c.args.self.now.original_classes.now c.loop-at.at
was g c u above below = c.requires.unread u (omega (arith, c.loop-at.invariant.0)) ∙ (next g c).same u above below

pub write_class-requires-clause-ordered : goal.write_class-requires-clause-ordered
write_class-requires-clause-ordered g c = omega (arith, next g (goal.at.write_class-requires-clause-ordered g c).After-end_of-next)

pub write_class-requires-clause-within : goal.write_class-requires-clause-within
write_class-requires-clause-within g c = omega (arith, next g (goal.at.write_class-requires-clause-within g c).After-end_of-next, c.loop-at.invariant.2.same_len, c.requires.same_len, c.requires.within)

pub loop-at-init : goal.loop-at-init
loop-at-init g c = grind arith steps 400000

pub loop-at-smaller-then-passes : goal.loop-at-smaller-then-passes
loop-at-smaller-then-passes g c = omega (arith, next g (goal.at.loop-at-smaller-then-passes g c).After-end_of-next)

pub loop-at-smaller : goal.loop-at-smaller
loop-at-smaller g c = omega (arith, next g (goal.at.loop-at-smaller g c).After-end_of-next)

pub loop-at-preserved-then-passes : goal.loop-at-preserved-then-passes
loop-at-preserved-then-passes g c =
    let a = goal.at.loop-at-preserved-then-passes g c in
    let on = next g a.After-end_of-next in (
      omega (arith, on.some, c.loop-at.invariant.0),
      on.within,
      simp c.write_class.ensures (IsOverridden-more _ _ _ _ _ _ c.loop-at.invariant.2 c.loop-at.invariant.0 (omega (arith, on.some)) (omega (arith, on.within, c.requires.within, c.requires.same_len))
          (λ u above below. ap is_kept_in_place (was g a.After-end_of-next u above below) ∙ sym c.passes.ensures ∙ c.if-passes.true)),
      on.begins,
      omega (arith, on.index),
    )

pub loop-at-preserved : goal.loop-at-preserved
loop-at-preserved g c =
    let a = goal.at.loop-at-preserved g c in
    let on = next g a.After-end_of-next in (
      omega (arith, on.some, c.loop-at.invariant.0),
      on.within,
      IsOverridden-spared c.args.put c.args.from c.loop-at.at c.end_of-next.result c.args.classes.now c.loop-at.classes c.loop-at.invariant.2 c.loop-at.invariant.0 (omega (arith, on.some))
          (λ u above below. ap is_kept_in_place (was g a.After-end_of-next u above below) ∙ sym c.passes.ensures ∙ c.if-passes.false),
      on.begins,
      omega (arith, on.index),
    )

pub returns-clause-steps : goal.returns-clause-steps
returns-clause-steps g c =
    let same : c.loop-at.at ≡ c.args.to = omega (arith, c.loop-at.invariant.1) in
    c.loop-at.invariant.4 ∙ ap (λ u. c.args.steps.now + char_index g.T.TextSource.encoding.len_of (g.T.TextSource.text c.args.self.now.text).chars u) same
