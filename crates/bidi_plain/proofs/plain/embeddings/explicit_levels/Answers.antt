use Rattle.bidi_base.proofs.Common.{arith, rules}
use Rattle.bidi_laws.proofs.ExplicitLemmas.{length-explicit_levels, length-explicit_classes}
use Rattle.bidi_plain.proofs.ExplicitPass.{IsExplicitSoFar-start, IsExplicitSoFar-more, IsExplicitSoFar-levels, IsExplicitSoFar-classes}
use Rattle.bidi_plain.proofs.plain.embeddings.explicit_levels.Goals as goal

pub loop-class-init : goal.loop-class-init
loop-class-init c = IsExplicitSoFar-start _ _ _ _ _ c.new-openers.ensures c.in_ok-levels.ensures.items c.in_ok-overridden.ensures.items

pub loop-class-preserved : goal.loop-class-preserved
loop-class-preserved c =
    rw (c.in_ok-push.ensures.items, c.in_ok-push-2.ensures.items)
    (IsExplicitSoFar-more _ _ c.loop-class.class-index _ _ _ _ _ c.status-status.result _ _ c.loop-class-test.true c.loop-class.invariant c.close.ensures c.in_ok-open.ensures c.status-status.ensures
    (simp (c.level_of.ensures, ← c.status.view_is)) (simp (c.class_of.ensures, ← c.status.view_is)))

pub returns-clause-levels : goal.returns-clause-levels
returns-clause-levels c = IsExplicitSoFar-levels _ _ c.loop-class.class-index _ _ _ (omega arith) c.loop-class.invariant

pub returns-clause-classes : goal.returns-clause-classes
returns-clause-classes c = IsExplicitSoFar-classes _ _ c.loop-class.class-index _ _ _ (omega arith) c.loop-class.invariant

pub returns-clause-same_len : goal.returns-clause-same_len
returns-clause-same_len c = search (rules, returns-clause-levels, length-explicit_levels, returns-clause-classes, length-explicit_classes)
