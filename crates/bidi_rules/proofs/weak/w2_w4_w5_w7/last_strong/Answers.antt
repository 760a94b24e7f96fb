use Rattle.bidi_base.proofs.Common.{◌≡◌, ◌-◌, ◌<◌, ◌≤◌, ℕ, List, Some, length, reverse, slice_range, get_or, ap, sym, ◌∙◌, arith, get_or-reverse, get_or-take, get_or-drop, length-take, length-drop, length-reverse, class_at}
use Rattle.bidi_base.proofs.Lists.{find-first, find-none}
use Rattle.bidi_base.specs.Classes.{is_strong}
use Rattle.bidi_base.specs.declared.char_data.BidiClass.{BidiClass}
use Rattle.bidi_base.specs.declared.char_data.BidiClass.TheVariants.{L}
use Rattle.bidi_rules.proofs.weak.w2_w4_w5_w7.last_strong.Goals as goal

long : (classes : List BidiClass) (from to : ℕ) → from ≤ to → to ≤ length classes → length (reverse (slice_range classes from to)) ≡ to - from
long classes from to order within = grind (arith, length-reverse, length-take, length-drop)

-- the classes from the last one on
at_back : (classes : List BidiClass) (from to k : ℕ) → from ≤ to → to ≤ length classes → k < to - from → get_or (reverse (slice_range classes from to)) k L ≡ class_at classes (to - 1 - k)
at_back classes from to k order within below = grind (arith, get_or-reverse, get_or-take, get_or-drop, length-take, length-drop)

pub returns-then-from-end-clause-last : goal.returns-then-from-end-clause-last
returns-then-from-end-clause-last g c =
    let classes = c.args.classes.now in
    let from = c.args.from in
    let to = c.args.to in
    let end = c.end_of_last_passing_counted-end.result in
    let found = c.end_of_last_passing_counted-end.ensures.last in
    let inside : to - end < to - from = omega arith in
    let back : to - 1 - (to - end) ≡ end - 1 = omega arith in
    let here = at_back classes from to (to - end) c.requires.ordered c.requires.within inside ∙ ap (class_at classes) back in
    let passes = ap is_strong here ∙ found.before (end - 1) (omega arith) (omega arith) in
    let first =
    find-first is_strong (reverse (slice_range classes from to)) (to - end) L (omega (arith, long classes from to c.requires.ordered c.requires.within)) passes (λ k below.
    ap is_strong (at_back classes from to k c.requires.ordered c.requires.within (omega arith)) ∙ found.after (to - 1 - k) (omega arith) (omega arith)) in
    sym (first ∙ ap Some here)

pub returns-else-from-end-clause-last : goal.returns-else-from-end-clause-last
returns-else-from-end-clause-last g c =
    let classes = c.args.classes.now in
    let found = c.end_of_last_passing_counted-end.ensures.last in
    sym (find-none is_strong (reverse (slice_range classes c.args.from c.args.to)) L (λ k below.
    let near : k < c.args.to - c.args.from = omega (arith, long classes c.args.from c.args.to c.requires.ordered c.requires.within) in
    ap is_strong (at_back classes c.args.from c.args.to k c.requires.ordered c.requires.within near) ∙ found.after (c.args.to - 1 - k) (omega arith) (omega arith)))
