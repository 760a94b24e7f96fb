use Rattle.bidi_base.proofs.Common.{ℕ, ◌<◌, List, length, not, ap, arith, is_removed, IsFirst, passing}
use Rattle.bidi_base.specs.declared.char_data.BidiClass.{BidiClass}
use Rattle.bidi_paragraphs.proofs.FilledUnits.{AreFilled, AreFilled-removed}
use Rattle.bidi_paragraphs.proofs.paragraph_levels.fill_removed.Goals as goal

-- up to the next one that is removed
up_to : (para : ℕ) (classes : List BidiClass) (old now : List ℕ) (i next : ℕ) → IsFirst (passing is_removed classes) i (length classes) next
    → AreFilled para classes old i now → AreFilled para classes old next now
up_to para classes old now i next f h = grind arith

pub loop-from-init : goal.loop-from-init
loop-from-init c = grind arith

pub write_removed-from-requires : goal.write_removed-from-requires
write_removed-from-requires c =
    let f = c.first_passing-at.ensures in
    let inside : c.first_passing-at.result < length c.args.classes.now = omega (arith, f.ends, c.if-at-units.false) in
    record { same_len = grind arith; inside = inside; removed = ap not (f.at inside) }

pub loop-from-preserved : goal.loop-from-preserved
loop-from-preserved c =
    let w = c.write_removed-from.ensures in
    record {
      filled =
          AreFilled-removed _ _ _ _ _ (up_to _ _ _ _ c.loop-from.from _ c.first_passing-at.ensures c.loop-from.invariant.filled) c.level_before-before.result
          c.write_removed-from.result _ (omega (arith, w.advances)) w.removed w.written c.level_before-before.ensures.front c.level_before-before.ensures.inside;
      ends = w.within;
    }

pub returns-then-at-units : goal.returns-then-at-units
returns-then-at-units c =
    let filled = up_to _ _ _ _ c.loop-from.from _ c.first_passing-at.ensures c.loop-from.invariant.filled in
    record { kept = grind (arith, filled, c.if-at-units.true); front = λ some k. filled.front (omega (arith, c.if-at-units.true)) k; removed = grind (arith, filled, c.if-at-units.true) }

pub returns : goal.returns
returns c = record {
  kept = grind arith;
  front = λ some k. c.loop-from.invariant.filled.front (omega (arith, c.loop-from-test.false)) k;
  removed = grind arith;
}
