use Rattle.bidi_base.proofs.Common.{◌≡◌, ◌∙◌, ℕ, zero, suc, ◌+◌, ◌-◌, ◌<◌, ◌≤◌, ◌==◌, Bool, true, false, ◌&&◌, cond, if◌then◌else◌, List, ◌∷◌, Some, length, get_or, drop, map, arith, level_by, is_strong, is_pdi, is_isolate_initiator}
use Rattle.bidi_base.proofs.Common.{drop-cons, add-one, drop_all, refl, sym, ap, paragraph_level, nat_tests}
use Rattle.bidi_base.specs.declared.char_data.BidiClass.{BidiClass}
use Rattle.bidi_laws.proofs.IsolateWalk.{Kind, opening, closing, neither, opens_one, closes_one, deciding_from, deciding_class-from, depth_by, initiator-kind, is_zero, kind_of, pdi-kind}
use Rattle.bidi_controls.proofs.own_level.own_level.Goals as goal

by_kind : (kind : Kind) (d : ℕ) → cond (opens_one kind) (d + 1) (cond (closes_one kind) (d - 1) d) ≡ depth_by kind d
by_kind opening d = omega arith
by_kind closing zero = refl
by_kind closing (suc d) = omega arith
by_kind neither d = refl

depth_is : (class : BidiClass) (d : ℕ) → (if is_isolate_initiator class then d + 1 else if is_pdi class then d - 1 else d) ≡ depth_by (kind_of class) d
depth_is class d = simp (initiator-kind class, pdi-kind class) (by_kind (kind_of class) d)

zero_is : (d : ℕ) → (d == 0) ≡ is_zero d
zero_is zero = refl
zero_is (suc d) = grind (arith, nat_tests)

-- the character at an index, and those after it
module _ (class_of : ℕ → BidiClass) (chars : List ℕ) (i c d : ℕ) (class : BidiClass) (deciding : Bool) (fits : i < length chars) (is : c ≡ get_or chars i c) (class_is : class ≡ class_of c)
    (deciding_is : deciding ≡ (is_strong class && d == 0)) where
  from_here : map class_of (drop i chars) ≡ class ∷ map class_of (drop (i + 1) chars)
  from_here = grind (arith, add-one, drop-cons chars i c fits)

  test_is : (is_strong class && is_zero d) ≡ deciding
  test_is = ap (λ none. is_strong class && none) (sym (zero_is d)) ∙ sym deciding_is

  decided : deciding ≡ true → level_by (deciding_from d (map class_of (drop i chars))) ≡ level_by (Some class)
  decided yes_deciding = simp (from_here, test_is, yes_deciding) refl

  goes_on : (d' : ℕ) → deciding ≡ false → d' ≡ (if is_isolate_initiator class then d + 1 else if is_pdi class then d - 1 else d)
      → level_by (deciding_from d' (map class_of (drop (i + 1) chars))) ≡ level_by (deciding_from d (map class_of (drop i chars)))
  goes_on d' no_deciding after = simp (from_here, test_is, no_deciding, after, depth_is class d) refl

at_end : (class_of : ℕ → BidiClass) (chars : List ℕ) (i d : ℕ) → length chars ≤ i → level_by (deciding_from d (map class_of (drop i chars))) ≡ 0
at_end class_of chars i d past = simp (drop_all i chars past) refl

pub loop-c-init : goal.loop-c-init
loop-c-init g c = grind (arith, deciding_class-from)

pub loop-c-preserved : goal.loop-c-preserved
loop-c-preserved g c =
    let source = g.D.BidiDataSource.source c.args.data_source.now in
    let l = c.loop-c in
    record {
      few = let few = l.invariant.few in grind arith;
      same = goes_on source.class_of c.args.chars.now l.c-index c.c-item.result l.depth c.bidi_class-class.result c.is_deciding.result c.loop-c-test.true c.c-item.is c.bidi_class-class.ensures c.is_deciding.ensures
          c.depth_after-depth.result c.if-is_deciding.false c.depth_after-depth.ensures ∙ l.invariant.same;
    }

pub returns-then-is_deciding-clause-level : goal.returns-then-is_deciding-clause-level
unfolding paragraph_level
returns-then-is_deciding-clause-level g c =
    let source = g.D.BidiDataSource.source c.args.data_source.now in
    let l = c.loop-c in
    c.level_by.ensures
    ∙ sym (decided source.class_of c.args.chars.now l.c-index c.c-item.result l.depth c.bidi_class-class.result c.is_deciding.result c.loop-c-test.true c.c-item.is c.bidi_class-class.ensures c.is_deciding.ensures c.if-is_deciding.true)
    ∙ l.invariant.same

pub returns-clause-level : goal.returns-clause-level
unfolding paragraph_level
returns-clause-level g c =
    let l = c.loop-c in
    sym (at_end (g.D.BidiDataSource.source c.args.data_source.now).class_of c.args.chars.now l.c-index l.depth (grind arith)) ∙ l.invariant.same
