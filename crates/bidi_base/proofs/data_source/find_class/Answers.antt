use Rattle.bidi_base.proofs.Common.{sym, arith, rules}
use Rattle.bidi_base.proofs.TableLemmas.{all_before, all_after, table_class-holder, table_class-between}
use Rattle.bidi_base.proofs.data_source.find_class.Goals as goal

pub loop-low-preserved-then-c-first : goal.loop-low-preserved-then-c-first
loop-low-preserved-then-c-first c = search (rules, all_after)

pub loop-low-preserved : goal.loop-low-preserved
loop-low-preserved c = record {
  high_fits = c.loop-low.invariant.high_fits;
  before = all_before c.args.ranges.now c.args.c _ c.requires (omega (arith, c.loop-low.invariant.high_fits)) c.if-last-c.true;
  after = c.loop-low.invariant.after;
}

pub returns-else-last-c : goal.returns-else-last-c
returns-else-last-c c =
    sym (table_class-holder c.args.ranges.now c.args.c _ c.requires (omega (arith, c.loop-low.invariant.high_fits)) c.if-c-first.false c.if-last-c.false)

pub returns : goal.returns
returns c = sym (table_class-between c.args.ranges.now c.args.c _ _ c.loop-low-test.false c.loop-low.invariant.before c.loop-low.invariant.after)
