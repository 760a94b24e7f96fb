use Rattle.bidi_base.proofs.Common.{refl, sym, subst, ◌∙◌, arith, length, IsVisualOrder, AreInverse, List, ℕ, ◌≡◌, [], ◌∷◌}
use Rattle.bidi_lines.proofs.Ordered.{visual_order-is, visual_order-still, none_odd}
use Rattle.bidi_laws.proofs.LayoutLemmas.{own_indexes, visual_indexes-inverse}
use Rattle.unicode_bidi.proofs.StoredOrder.{order-long, still-indexes, places-in_order, entries-stored}
use Rattle.unicode_bidi.specs.StoredOrder.{entries}
use Rattle.unicode_bidi.proofs.layout.LineMap.of_levels.Goals as goal

entries-whole : (list : List ℕ) (len : ℕ) → length list ≡ len → entries list len ≡ list
entries-whole [] len e = rw (← e) refl
entries-whole (x ∷ xs) len e = entries-stored (x ∷ xs) len (omega arith)

pub returns-then-not-has_rtl-clause-order : goal.returns-then-not-has_rtl-clause-order
returns-then-not-has_rtl-clause-order c =
    c.in_order.ensures.order ∙ sym (visual_order-still c.args.levels.now (none_odd c.args.levels.now (grind arith)))

pub returns-then-not-has_rtl-clause-places : goal.returns-then-not-has_rtl-clause-places
returns-then-not-has_rtl-clause-places c =
    let same = visual_order-still c.args.levels.now (none_odd c.args.levels.now (grind arith)) in
    c.in_order.ensures.places ∙ places-in_order c.args.levels.now (subst (IsVisualOrder c.args.levels.now) same (visual_order-is c.args.levels.now))

pub returns-then-is_in_order-clause-order : goal.returns-then-is_in_order-clause-order
returns-then-is_in_order-clause-order c =
    let same = rw c.as_slice.ensures.value at (c.if-is_in_order.ensures.ordered refl) in
    c.in_order-then-is_in_order.ensures.order ∙ sym (still-indexes c.args.levels.now c.in_ok-order.order.items c.in_ok-order.ensures.visual same) ∙ c.in_ok-order.ensures.order

pub returns-then-is_in_order-clause-places : goal.returns-then-is_in_order-clause-places
returns-then-is_in_order-clause-places c =
    let same = rw c.as_slice.ensures.value at (c.if-is_in_order.ensures.ordered refl) in
    let visual = subst (IsVisualOrder c.args.levels.now) (still-indexes c.args.levels.now c.in_ok-order.order.items c.in_ok-order.ensures.visual same) c.in_ok-order.ensures.visual in
    c.in_order-then-is_in_order.ensures.places ∙ places-in_order c.args.levels.now visual

pub inverse-requires : goal.inverse-requires
inverse-requires c = grind (arith, own_indexes)

pub invariant_of-result : goal.invariant_of-result
invariant_of-result c = record {
  inverse = rw c.as_slice-2.ensures.value at c.in_ok-places.ensures;
  whole = λ _. order-long c.args.levels.now c.in_ok-order.order.items c.in_ok-order.ensures.visual;
  other = λ _. rw c.as_slice.ensures.value at (c.if-is_in_order.ensures.other refl);
}

pub returns-clause-places : goal.returns-clause-places
returns-clause-places c =
    let order = c.in_ok-order.order.items in
    let places = c.in_ok-places.places.items in
    let inverse : AreInverse order places = rw c.as_slice-2.ensures.value at c.in_ok-places.ensures in
    entries-whole places (length c.args.levels.now) (sym inverse.same_len ∙ order-long c.args.levels.now order c.in_ok-order.ensures.visual)
    ∙ visual_indexes-inverse c.args.levels.now order c.in_ok-order.ensures.visual places inverse
