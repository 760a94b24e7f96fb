use Rattle.bidi_base.proofs.Common.{sym, arith}
use Rattle.bidi_base.proofs.TableLemmas.{table_fault-first, table_fault-none}
use Rattle.bidi_base.proofs.data_source.first_fault.Goals as goal

pub returns-in-Some : goal.returns-in-Some
returns-in-Some c = sym (table_fault-first c.args.ranges.now c.loop-i.i _ (omega arith) (sym c.in-Some.ensures) c.loop-i.invariant)

pub returns : goal.returns
returns c = sym (table_fault-none c.args.ranges.now (λ k below. c.loop-i.invariant k (omega arith)))
