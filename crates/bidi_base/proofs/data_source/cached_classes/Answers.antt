use Rattle.bidi_base.proofs.Common.{◌≡◌, ℕ, ◌-◌, List, length, drop, arith, sym, ap, ◌∙◌, get_or-replicate, at_drop_all, BidiClass, L, table_class}
use Rattle.bidi_base.proofs.TableLemmas.{cached-filled}
use Rattle.bidi_base.proofs.data_source.cached_classes.Goals as goal

pub loop-i-init : goal.loop-i-init
loop-i-init c =
    let ranges = c.args.ranges.now in
    λ n h. get_or-replicate 2048 n L L h ∙ sym (at_drop_all (λ (rs : List (ℕ × ℕ × BidiClass)). table_class rs n) ranges (length ranges) (omega arith))

pub loop-i-preserved-then-start-end : goal.loop-i-preserved-then-start-end
loop-i-preserved-then-start-end c =
    cached-filled 2048 c.args.ranges.now (c.loop-i.i - 1) c.loop-i.i c.min-end.result c.loop-i.classes c.fill.new.self (omega arith) (omega arith) c.min-end.ensures c.if-start-end.true c.if-start-end.array_long (c.fill.ensures.after (λ y e. e)) c.loop-i.invariant

pub returns : goal.returns
returns c = λ n h. c.loop-i.invariant n h ∙ ap (λ (i : ℕ). table_class (drop i c.args.ranges.now) n) (let none : c.loop-i.i ≡ 0 = omega arith in none)
